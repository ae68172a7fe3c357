-- A further leaf among the children of the node in the hole: its position, the kind of a larger node, and what the change keeps.
use Rattle.std.proofs.Common.{◌≡◌, ◌≢◌, ℕ, suc, ◌<◌, ◌≤◌, List, [], length, Some, None, refl, ap, sym, ◌∙◌, subst, arith, eq-eqb, inl, inr}
use Rattle.std.specs.List.{AllByRecursion as Each}
use Rattle.std.proofs.lemmas.Bool.{cases_order, ne_eqb}
use Rattle.art_model.specs.Prelude.{child_at, kind_capacity, larger_kind, Nodes, NodeType, Node4, Node16, Node48, Node256, Leaf, OpaqueNodePtr, leaf, inner, Subtrees, child, no_child, NodeHeader, canonical_header, kind_of, BytesRise, bytes_of, join, Frame, plug, name_of, slots_of, names_of, node_at, links_at, replace_key, ChangesInPlace, IsIn, Footprint}
use Rattle.art_model.proofs.stores.Canonical.{IsLaidOut}
use Rattle.art_model.proofs.places.InHole.{names_around}
use Rattle.art_model.proofs.changes.InPlace.{AreNames, in_place}
use Rattle.art_model.proofs.changes.Inserted.{ChildInserted, child_inserted, child_keeps, child_keeps_leaves}
use Rattle.art_model.proofs.lists.Lists.{Each-weaker}
use Rattle.art_model.proofs.places.Paths.{root_with}
use Rattle.art_model.proofs.stores.Slots.{IsInRange, kind_of-range, range_of_kind}

-- ---- the position of a child under a byte that has none

-- the children under lesser bytes, and those under greater ones
pub record IsSplit {A : Type 0} (cs : Subtrees OpaqueNodePtr A) (b : ℕ) : Type 0 where
  pub left : Subtrees OpaqueNodePtr A
  pub right : Subtrees OpaqueNodePtr A
  pub whole : cs ≡ join left right
  pub low : Each (λ c. c < b) (bytes_of left)
  pub high : Each (λ c. b < c) (bytes_of right)

pub split_at : {A : Type 0} (cs : Subtrees OpaqueNodePtr A) (b : ℕ) → BytesRise (bytes_of cs) → child_at (slots_of cs) b ≡ None → IsSplit cs b
split_at no_child b up none = record { left = no_child; right = no_child; whole = refl; low = tt; high = tt }
split_at (child c t cs) b up none = elim (cases_order c b) [
  | inl e ↦ let there : child_at (slots_of (child c t cs)) b ≡ Some (name_of t) = rw (eq-eqb c b e) refl in absurd cc
  | inr (inl l) ↦
      let later : child_at (slots_of (child c t cs)) b ≡ child_at (slots_of cs) b = rw (ne_eqb c b (λ e. omega arith)) refl in
      let s = split_at cs b up.1 (sym later ∙ none) in
      record { left = child c t s.left; right = s.right; whole = ap (child c t) s.whole; low = (l, s.low); high = s.high }
  | inr (inr g) ↦ record {
    left = no_child;
    right = child c t cs;
    whole = refl;
    low = tt;
    high = (g, Each-weaker (λ d. c < d) (λ d. b < d) (λ d l. omega arith) (bytes_of cs) up.0);
  }
]

-- ---- the kind of a larger node

-- a full node that gets a further child has the next kind
pub kind_of-larger : (kind : NodeType) (n : ℕ) → kind ≡ kind_of n → kind ≢ Node256 → kind_capacity kind ≤ n → larger_kind kind ≡ kind_of (suc n)
kind_of-larger kind n e not_last full =
    sym (kind_of-range (larger_kind kind) (suc n) (more kind (subst (λ k. IsInRange k n) (sym e) (range_of_kind n)) not_last full))
  where
    more : (k : NodeType) → IsInRange k n → k ≢ Node256 → kind_capacity k ≤ n → IsInRange (larger_kind k) (suc n)
    more Node4 h off f = (omega arith, omega arith)
    more Node16 h off f = (omega arith, let a = h.1 in omega arith)
    more Node48 h off f = let a = h.1 in omega arith
    more Node256 h off f = absurd (off refl)
    more Leaf h off f = absurd h

-- ---- all of it

-- The node in the hole has a further leaf among its children, under its old name or another: the new layout, and that the tree was changed in place.
pub record ChildAdded {K V : Type 0} (bytes : K × V → List ℕ) (P : ℕ) (s t : Nodes K V) (root : OpaqueNodePtr) (pairs : List (K × V))
    (fs : List (Frame OpaqueNodePtr (K × V))) (m node : OpaqueNodePtr) (h : NodeHeader) (l r : Subtrees OpaqueNodePtr (K × V)) (b : ℕ)
    (n : OpaqueNodePtr) (new : K × V) : Type 0 where
  pub header : NodeHeader
  pub laid : IsLaidOut bytes P (node_at t) (links_at t) (root_with fs root node) (replace_key bytes new pairs)
      (plug fs (inner node header (join l (child b (leaf n new) r))))
  pub kept : ChangesInPlace bytes s t (Some (plug fs (inner m h (join l r)))) (Some (plug fs (inner node header (join l (child b (leaf n new) r)))))

pub child_added : {K V : Type 0} {bytes : K × V → List ℕ} {P : ℕ} {s t : Nodes K V} {root : OpaqueNodePtr} {pairs : List (K × V)}
    {fs : List (Frame OpaqueNodePtr (K × V))} {place : List ℕ} {m node n : OpaqueNodePtr} {h : NodeHeader} {l r : Subtrees OpaqueNodePtr (K × V)} {b : ℕ}
    {new : K × V} {placed freed changed : List OpaqueNodePtr} →
    IsLaidOut bytes P (node_at s) (links_at s) root pairs (plug fs (inner m h (join l r))) →
    ChildInserted bytes P (node_at s) (node_at t) (links_at s) (links_at t) fs place m node n h l r b new → Footprint s t placed freed changed →
    ((g : NodeHeader) → AreNames (names_of (inner m h (join l r))) (names_of (inner node g (join l (child b (leaf n new) r)))) placed freed []) →
    ((k : OpaqueNodePtr) → IsIn k changed → IsIn k (names_of (plug fs (inner m h (join l r))))) → ChildAdded bytes P s t root pairs fs m node h l r b n new
child_added {P = P} {fs = fs} {m = m} {node} {n} {h} {l} {r} {b} {new} {placed} {freed} {changed} old is print names changed_in =
    let header = canonical_header P is.gap.hole.radix.0 (suc (length (bytes_of (join l r)))) in
    let whole_names =
    names_around fs (inner m h (join l r)) (inner node header (join l (child b (leaf n new) r))) placed freed changed
    (names header) changed_in in
    record { header = header; laid = child_inserted old is; kept = in_place print P whole_names (child_keeps_leaves old is) (child_keeps old is) }
