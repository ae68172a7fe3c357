-- Pairs are written one after another.
use Rattle.std.proofs.Common.{◌≡◌, ◌<◌, ◌≤◌, ◌+◌, ◌-◌, ℕ, List, [], ◌∷◌, ◌++◌, length, drop, take, set, map, ap, sym, ◌∙◌, append_assoc, length-append, arith}
use Rattle.std.proofs.lemmas.List.{drop-drop, drop-set-lt, flat_map_more, length-take, length-take-le, length_push, length-set, map-append, take_more_set}
use Rattle.string_map.specs.Given.{joined_keys}
use Rattle.string_map.specs.Shown.{pair_of}
use Rattle.string_map.specs.declared.pairs.Pair.{Pair}

-- some of the wanted pairs are written, and the others are left
pub record IsFilling (wanted left : List (List ℕ × ℕ)) (count end : ℕ) (buffer : List ℕ) (before written : List Pair) : Type 0 where
  pub given : List (List ℕ × ℕ)
  pub whole : wanted ≡ given ++ left
  pub count_is : length given ≡ count
  pub pairs : take count written ≡ map pair_of given
  pub others : drop count written ≡ drop count before
  pub keys : take end buffer ≡ joined_keys given
  pub end_is : length (joined_keys given) ≡ end
  pub few : count ≤ length written
  pub fits : end ≤ length buffer

module _ {wanted left : List (List ℕ × ℕ)} {count end : ℕ} {buffer : List ℕ} {before written : List Pair} where
  -- one more pair
  pub fills_next : {x : List ℕ × ℕ} {rest : List (List ℕ × ℕ)} {next : ℕ} {after : List ℕ} → IsFilling wanted left count end buffer before written →
      left ≡ x ∷ rest → next ≡ end + length x.0 → take next after ≡ take end buffer ++ x.0 → count < length written →
      IsFilling wanted rest (count + 1) next after before (set written count (record { value = x.1; key_len = next - end }))
  fills_next {x} {rest} {next} {after} so first next_is keys room =
      let pair : Pair = record { value = x.1; key_len = next - end } in
      let pair_is : pair ≡ pair_of x = ap (λ n. record { value = x.1; key_len = n }) (omega (arith, next_is)) in
      let joined : joined_keys (so.given ++ x ∷ []) ≡ joined_keys so.given ++ x.0 = sym (flat_map_more (λ pair. pair.0) [] so.given x) in
      let front_len : length (take end buffer) ≡ end = length-take-le end buffer so.fits in
      let len : length (take next after) ≡ end + length x.0 = ap length keys ∙ length-append (take end buffer) x.0 ∙ ap (λ n. n + length x.0) front_len in
      let least = length-take next after in
      record {
        given = so.given ++ x ∷ [];
        whole = so.whole ∙ ap (λ xs. so.given ++ xs) first ∙ sym (append_assoc so.given (x ∷ []) rest);
        count_is = length_push so.given x ∙ ap (λ n. n + 1) so.count_is;
        pairs = take_more_set written count pair room ∙ ap (λ xs. xs ++ pair ∷ []) so.pairs
            ∙ ap (λ it. map pair_of so.given ++ it ∷ []) pair_is ∙ sym (map-append pair_of so.given (x ∷ []));
        others = drop-set-lt (count + 1) written count pair (omega arith) ∙ sym (drop-drop 1 count written)
            ∙ ap (drop 1) so.others ∙ drop-drop 1 count before;
        keys = keys ∙ ap (λ xs. xs ++ x.0) so.keys ∙ sym joined;
        end_is = ap length joined ∙ length-append (joined_keys so.given) x.0 ∙ ap (λ n. n + length x.0) so.end_is ∙ sym next_is;
        few = let h = length-set written count pair in omega (arith, room);
        fits = omega (arith, len, least, next_is);
      }
