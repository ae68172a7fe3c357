use Rattle.std.proofs.Common.{◌<◌, ap, ◌∙◌, sym, subst}
use Rattle.std.specs.List.{AllPairs}
use Rattle.prefix_table.specs.Parts.{covering}
use Rattle.prefix_table.proofs.PartLemmas.{all_matches, longest_first}
use Rattle.prefix_table.proofs.table.PrefixTable.matches.Goals as goal

pub returns : goal.returns
returns g c =
    let all =
    c.new.ensures ∙ all_matches c.args.self.now c.address_of-address.result c.count_up_to.result c.count_up_to.ensures.started.within c.count_up_to.ensures.others in
    record {
      all = all ∙ ap (λ address. covering address c.args.self.now) c.address_of-address.ensures.address;
      longest_first =
          subst (AllPairs (λ a b. b.0.length < a.0.length)) (sym all)
          (longest_first c.args.self.now c.address_of-address.result c.count_up_to.ensures.order);
    }
