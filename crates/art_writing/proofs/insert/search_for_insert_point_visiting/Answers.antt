use Rattle.std.proofs.Common.{refl, sym, ◌∙◌}
use Rattle.std.proofs.lemmas.Bool.{true≢false, false≢true}
use Rattle.art_writing.proofs.insert.search_for_insert_point_visiting.Goals as goal

pub returns-in-InsertPoint-clause-point : goal.returns-in-InsertPoint-clause-point
returns-in-InsertPoint-clause-point g c =
    let found = c.in-InsertPoint.ensures.point in
    record {
      accepted = λ pairs layout by. ((λ ok. (found.point pairs layout by).0), (λ free. refl));
      point = λ pairs layout by. (found.point pairs layout by).1;
      root = found.root;
      applies = found.applies;
      refused = tt;
    }

pub returns-in-OverwritePoint-clause-point : goal.returns-in-OverwritePoint-clause-point
returns-in-OverwritePoint-clause-point g c =
    let found = c.in-OverwritePoint.ensures.point in
    record {
      accepted = λ pairs layout by. ((λ ok. absurd (false≢true ok)), (λ free. absurd (true≢false (sym (found.point pairs layout by).0 ∙ free))));
      point = λ pairs layout by. tt;
      root = tt;
      applies = tt;
      refused = c.refusal.ensures;
    }
