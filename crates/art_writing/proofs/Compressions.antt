-- A node is removed with one of its two children, and the other replaces it.
use Rattle.std.proofs.Common.{◌≡◌, ℕ, ◌+◌, ◌≤◌, List, [], ◌∷◌, ◌++◌, length, take, min}
use Rattle.std.proofs.Common.{Option, Some, None, IsSome, IsSomeAnd, refl, ap, ◌∙◌, arith, append_assoc}
use Rattle.std.proofs.lemmas.List.{take-take}
use Rattle.art_model.specs.Prelude.{Inner, LeafNode, Prefix, header_of}
use Rattle.art_nodes.proofs.StoreLemmas.{is_there}
use Rattle.art_parts.proofs.HeaderLaws.{extended_header, len_of_header, stored_of_header}

-- a prefix, a byte and another prefix after it
pub lengthened : (P byte : ℕ) (first rest : List ℕ) (front own one both : Prefix) → front ≡ header_of P first → own ≡ header_of P rest →
    one.len ≡ front.len + 1 → one.stored ≡ take P (front.stored ++ take 1 (byte ∷ [])) → both.len ≡ one.len + own.len →
    both.stored ≡ take P (one.stored ++ take own.len own.stored) → both ≡ header_of P (first ++ byte ∷ rest)
lengthened P byte first rest front own one both is own_is one_len one_stored len stored =
    let more : own.len ≡ length rest = len_of_header P rest own own_is in
    let begins : take (min (length rest) P) own.stored ≡ take (min (length rest) P) rest =
    ap (take (min (length rest) P)) (stored_of_header P rest own own_is) ∙ take-take (min (length rest) P) P rest (omega arith) in
    let first_one : one ≡ header_of P (first ++ byte ∷ []) = extended_header P first (byte ∷ []) (byte ∷ []) front one is refl one_len one_stored in
    extended_header P (first ++ byte ∷ []) rest own.stored one both first_one begins (omega arith)
    (stored ∙ ap (λ k. take P (one.stored ++ take k own.stored)) more) ∙ ap (header_of P) (append_assoc first (byte ∷ []) rest)

-- the node and the leaf in the store, by whose key the lengths have a sum
module _ {K V : Type 0} (bytes : K → List ℕ) (leaves : Option (LeafNode K V)) (inners : Option Inner) (front : ℕ)
    (may : IsSomeAnd leaves (λ leaf. IsSomeAnd inners (λ node. front + 1 + node.prefix.len ≤ length (bytes leaf.key)))) where
  abbrev Fits : LeafNode K V → Inner → Type 0
  Fits leaf node = front + 1 + node.prefix.len ≤ length (bytes leaf.key)

  pub leaf_there : IsSome leaves
  leaf_there = is_there (λ leaf. IsSomeAnd inners (Fits leaf)) leaves may

  pub node_there : IsSome inners
  node_there = below leaves may
    where
      below : (l : Option (LeafNode K V)) → IsSomeAnd l (λ leaf. IsSomeAnd inners (Fits leaf)) → IsSome inners
      below None h = absurd h
      below (Some leaf) h = is_there (Fits leaf) inners h
