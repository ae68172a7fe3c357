use Rattle.std.proofs.Common.{◌≡◌, ◌∙◌, ℕ, Bool, true, false, List, [], ◌∷◌, Option, Some, None, Bor, cond, eqb, length, slice_get, refl, ap, ap₂, sym, Ordering, Less, Equal, Greater}
use Rattle.std.proofs.lemmas.Bool.{false≢true, true≢false}
use Rattle.std.proofs.lemmas.Option.{slice_get_past, slice_get-get_or}
use Rattle.std.specs.Cmp.Lexicographic.{slice_cmp}
use Rattle.std.specs.Option.{option_cmp, option_map}
use Rattle.std.specs.Ordering.{is_eq, nat_cmp, ordering_then}
use Rattle.std.specs.Slice.{IsItemAt}
use Rattle.art_model.specs.Prelude.{common_front}
use Rattle.art_checking.proofs.Meetings.{is_eq_nat}
use Rattle.art_checking.proofs.well_formed.compared.order_of.Goals as goal

-- the first bytes that are not shared decide
decided : (a b : List ℕ) → option_cmp nat_cmp (slice_get a (length (common_front a b))) (slice_get b (length (common_front a b))) ≡ slice_cmp nat_cmp a b
decided [] [] = refl
decided [] (y ∷ b) = refl
decided (x ∷ a) [] = refl
decided (x ∷ a) (y ∷ b) = go (decided a b) (eqb x y) (nat_cmp x y) refl (is_eq_nat x y)
  where
    go : option_cmp nat_cmp (slice_get a (length (common_front a b))) (slice_get b (length (common_front a b))) ≡ slice_cmp nat_cmp a b →
        (t : Bool) (o : Ordering) → nat_cmp x y ≡ o → is_eq o ≡ t →
        option_cmp nat_cmp (slice_get (x ∷ a) (length (cond t (x ∷ common_front a b) [])))
        (slice_get (y ∷ b) (length (cond t (x ∷ common_front a b) []))) ≡ ordering_then o (slice_cmp nat_cmp a b)
    go ih true Equal e h = ih
    go ih true Less e h = absurd (false≢true h)
    go ih true Greater e h = absurd (false≢true h)
    go ih false Equal e h = absurd (true≢false h)
    go ih false Less e h = e
    go ih false Greater e h = e

-- what is read at a place, without its reference
read : (xs : List ℕ) (i : ℕ) (r : Option (Bor ℕ)) → IsItemAt xs i r → option_map (λ byte. byte.now) r ≡ slice_get xs i
read xs i None h = sym (slice_get_past xs i h.3)
read xs i (Some byte) h = ap Some h.1 ∙ sym (slice_get-get_or xs i byte.now h.3.0)

by_value : (r s : Option (Bor ℕ)) → option_cmp (λ x y. nat_cmp x.now y.now) r s
    ≡ option_cmp nat_cmp (option_map (λ byte. byte.now) r) (option_map (λ byte. byte.now) s)
by_value None None = refl
by_value None (Some y) = refl
by_value (Some x) None = refl
by_value (Some x) (Some y) = refl

pub returns : goal.returns
returns c =
    let a = c.args.a.now in
    let b = c.args.b.now in
    let shared = c.shared_len-shared.result in
    c.cmp.ensures ∙ by_value c.get.result c.get-2.result
    ∙ ap₂ (option_cmp nat_cmp) (read a shared c.get.result c.get.ensures.lookup) (read b shared c.get-2.result c.get-2.ensures.lookup) ∙
    ap (λ i. option_cmp nat_cmp (slice_get a i) (slice_get b i)) c.shared_len-shared.ensures ∙ decided a b
