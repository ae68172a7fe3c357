use Rattle.std.proofs.Common.{◌≡◌, ℕ, [], ◌∷◌, ap, sym, ◌∙◌, arith}
use Rattle.std.proofs.lemmas.Int.{to_z-of_z}
use Rattle.std.specs.Int.{from_be_bytes}
use Rattle.art_keys.specs.Numbers.{number_of}
use Rattle.art_keys.proofs.signed.Signed+16.get.Goals as goal
use mir.Syntax.{w128}

-- the number of sixteen digits
sixteen : (a b c d e f g h i j k l m n o p : ℕ) →
    from_be_bytes w128 (a ∷ b ∷ c ∷ d ∷ e ∷ f ∷ g ∷ h ∷ i ∷ j ∷ k ∷ l ∷ m ∷ n ∷ o ∷ p ∷ [])
    ≡ number_of (a ∷ b ∷ c ∷ d ∷ e ∷ f ∷ g ∷ h ∷ i ∷ j ∷ k ∷ l ∷ m ∷ n ∷ o ∷ p ∷ [])
sixteen a b c d e f g h i j k l m n o p = omega arith

pub returns : goal.returns
returns c =
    let number : c.from_be_bytes.result ≡ number_of c.self.inside.bytes =
    c.from_be_bytes.ensures ∙ ap (from_be_bytes w128) c.self.invariant.is ∙ sixteen _ _ _ _ _ _ _ _ _ _ _ _ _ _ _ _ ∙ ap number_of (sym c.self.invariant.is) in
    rw (to_z-of_z w128 c.lower.result (record { sfits = c.lower.type_inv }), c.lower.ensures, number) c.self.view_is
