-- Lines that are answered one after another.
use Rattle.std.proofs.Common.{◌≡◌, ℕ, ◌+◌, List, [], ◌∷◌, ◌++◌, length, Option, Some, None, IfSome}
use Rattle.std.proofs.Common.{refl, ap, sym, subst, inl, inr, append_assoc, append-nil}
use Rattle.std.specs.Io.KnownBytes.{Appends, Keeps}
use Rattle.art_engine.specs.declared.lines.Request.{Request}
use Rattle.art_engine.specs.declared.keeping.status.Ending.{Ending}
use Rattle.art_engine.specs.declared.keeping.status.Ending.TheVariants.{Input, BadLine}
use Rattle.art_engine.specs.declared.keeping.tree.KeptTree.{KeptTree}
use Rattle.art_engine.specs.KeptTrees.{state_of}
use Rattle.text_lines.proofs.Writing.{appends_kept, keeps_both, keeps_itself}
use Rattle.text_lines.specs.Lines.{lines}
use Rattle.art_engine.specs.Shown.{IsReplied}
use Rattle.art_engine.specs.Served.{AllAsk, AreServed, AreServedAnew, AsksFor, AsksForNothing, IsClone, OneAsksForNothing, refusal}

-- Whatever the replies to the remaining lines are from here, those to all lines are from the start.
abbrev pub GoesOn : ℕ → KeptTree → KeptTree → Option (List ℕ) → Option (List ℕ) → List (List ℕ) → Type 0
GoesOn number first tree old now before =
    (rest : List (List ℕ)) (last : KeptTree) (why : Ending) (new : Option (List ℕ)) → AreServed rest number tree last now why new →
    AreServed (before ++ rest) 1 first last old why new

pub none_served : (tree : KeptTree) (old : Option (List ℕ)) → GoesOn 1 tree tree old old []
none_served tree old rest last why new served = served

module _ (number : ℕ) (first tree : KeptTree) (old now : Option (List ℕ)) (line : List ℕ) where
  pub one_line_more : (request : Request) (after : KeptTree) (replied kept : Option (List ℕ)) → AsksFor line request →
      IsReplied IsClone request tree after now replied → Keeps replied kept →
      (before : List (List ℕ)) → number ≡ length before + 1 → GoesOn number first tree old now before →
      GoesOn (number + 1) first after old kept (before ++ line ∷ [])
  one_line_more request after replied kept asked reply keeps before n goes rest last why new served =
      subst (λ ls. AreServed ls 1 first last old why new) (sym (append_assoc before (line ∷ []) rest))
      (goes (line ∷ rest) last why new (inr (request, after, replied, kept, asked, reply, keeps, served)))

  pub all_served : (ls : List (List ℕ)) → GoesOn number first tree old now ls → AreServed ls 1 first tree old Input now
  all_served ls goes = subst (λ all. AreServed all 1 first tree old Input now) (append-nil ls) (goes [] tree Input now (refl, refl, keeps_itself now))

  pub refused_here : (new : Option (List ℕ)) → AsksForNothing line → Appends now new (refusal number) → (before after : List (List ℕ)) →
      number ≡ length before + 1 →
      GoesOn number first tree old now before → AreServed (before ++ line ∷ after) 1 first tree old BadLine new
  refused_here new nothing appends before after n goes = goes (line ∷ after) tree BadLine new (inl (nothing, refl, refl, appends))

-- ---- what the end reports of the lines

-- lines that are served to their end all ask for something
all_ask : (ls : List (List ℕ)) (number : ℕ) (tree last : KeptTree) (old new : Option (List ℕ)) → AreServed ls number tree last old Input new → AllAsk ls
all_ask [] number tree last old new h = tt
all_ask (line ∷ ls) number tree last old new (inl h) = let e = h.1 in absurd cc
all_ask (line ∷ ls) number tree last old new (inr (request, left, replied, kept, asked, reply, keeps, served)) =
    ((request, asked), all_ask ls (number + 1) left last kept new served)

-- those that end before have one that doesn't
one_asks_for_nothing : (ls : List (List ℕ)) (number : ℕ) (tree last : KeptTree) (old new : Option (List ℕ)) →
    AreServed ls number tree last old BadLine new → OneAsksForNothing ls
one_asks_for_nothing [] number tree last old new h = let e = h.0 in absurd cc
one_asks_for_nothing (line ∷ ls) number tree last old new (inl (nothing, is, stays, refused)) = ([], line, ls, refl, tt, nothing)
one_asks_for_nothing (line ∷ ls) number tree last old new (inr (request, left, replied, kept, asked, reply, keeps, served)) =
    let (before, bad, after, are, ask, nothing) = one_asks_for_nothing ls (number + 1) left last kept new served in
    (line ∷ before, bad, after, ap (λ all. line ∷ all) are, ((request, asked), ask), nothing)

-- what was served stays so while what was written stays
still_served : (ls : List (List ℕ)) (number : ℕ) (tree last : KeptTree) (old now new : Option (List ℕ)) (why : Ending) →
    AreServed ls number tree last old why now → Keeps now new → AreServed ls number tree last old why new
still_served [] number tree last old now new why served keeps = (served.0, served.1, keeps_both old now new served.2 keeps)
still_served (line ∷ ls) number tree last old now new why (inl (nothing, is, stays, refused)) keeps =
    inl (nothing, is, stays, appends_kept old now new (refusal number) refused keeps)
still_served (line ∷ ls) number tree last old now new why (inr (request, left, replied, kept, asked, reply, same, served)) keeps =
    inr (request, left, replied, kept, asked, reply, same, still_served ls (number + 1) left last kept now new why served keeps)

module _ (tree last_tree : KeptTree) (old new : Option (List ℕ)) where
  -- what is known of the lines of a text that were served to this end
  abbrev pub Served : Option (List ℕ) → Ending → Type 0
  Served text why = IfSome text (λ bs. AreServed (lines bs) 1 tree last_tree old why new)

  pub ended : (text : Option (List ℕ)) (why : Ending) → Served text why → why ≡ Input → IfSome text (λ bs. AllAsk (lines bs))
  ended None why served is = tt
  ended (Some bs) Input served is = all_ask (lines bs) 1 tree last_tree old new served
  ended (Some bs) BadLine served is = absurd cc

  pub refused : (text : Option (List ℕ)) (why : Ending) → Served text why → why ≡ BadLine → IfSome text (λ bs. OneAsksForNothing (lines bs))
  refused None why served is = tt
  refused (Some bs) Input served is = absurd cc
  refused (Some bs) BadLine served is = one_asks_for_nothing (lines bs) 1 tree last_tree old new served

  pub served : (text : Option (List ℕ)) (why : Ending) (last : Option (List ℕ)) → Served text why → Keeps new last → (state_of tree).root ≡ None →
      IfSome text (λ bs. AreServedAnew (lines bs) why old last)
  served None why last done keeps empty = tt
  served (Some bs) why last done keeps empty = (tree, last_tree, empty, still_served (lines bs) 1 tree last_tree old new last why done keeps)
