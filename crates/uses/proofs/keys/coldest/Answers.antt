use Rattle.std.proofs.Common.{◌≡◌, ℕ, List, [], Option, Some, refl}
use Rattle.std.specs.Int.{bytes_high_first}
use Rattle.art_model.specs.Pairs.{first_of, of_key, put}
use Rattle.uses.proofs.keys.coldest.Goals as goal

-- after three insertions the first pair has the least number
told : (a b c : ℕ) (p q r s : List (ℕ × ℕ)) (first : Option (ℕ × ℕ)) → a ≡ 281 → b ≡ 272 → c ≡ 290 → p ≡ [] →
    q ≡ put (of_key (bytes_high_first 2)) (a, 1) p → r ≡ put (of_key (bytes_high_first 2)) (b, 2) q → s ≡ put (of_key (bytes_high_first 2)) (c, 3) r →
    first ≡ first_of s → first ≡ Some (272, 2)
told a b c p q r s first of_a of_b of_c of_p of_q of_r of_s is = rw (is, of_s, of_r, of_q, of_p, of_a, of_b, of_c) refl

pub returns : goal.returns
returns c =
    told c.from.result c.from-2.result c.from-3.result c.new-days.result c.insert.new.self c.insert-2.new.self c.insert-3.new.self c.pop_first.result
    c.from.ensures c.from-2.ensures c.from-3.ensures c.new-days.ensures c.in-Ok.ensures.pairs c.in-Ok-insert.ensures.pairs
    c.in-Ok-insert-2.ensures.pairs c.pop_first.ensures.removed
