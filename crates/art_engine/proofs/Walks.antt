-- What is left of a traversal of nodes, and the room that it needs.
use Rattle.std.proofs.Common.{◌≡◌, ◌≢◌, ℕ, zero, suc, ◌+◌, ◌-◌, ◌≤◌, List, [], ◌∷◌, ◌++◌, length, refl, ap, sym, ◌∙◌, subst, arith, length-append, append_assoc, Some, inl, inr}
use Rattle.std.specs.Option.{option_map}
use Rattle.std.specs.FinMap as map
use Rattle.std.proofs.lemmas.Bool.{cases_order}
use Rattle.art_inner.specs.Inner.{Children, Inner}
use Rattle.art_parts.specs.Names.{inner_name}
use Rattle.art_nodes.specs.Nodes.{Nodes}
use Rattle.art_parts.specs.declared.names.NodeType.TheVariants.{Leaf}
use Rattle.art_parts.specs.declared.names.InnerPtr.{InnerPtr}
use Rattle.art_parts.specs.declared.names.OpaqueNodePtr.{OpaqueNodePtr}
use Rattle.art_model.specs.Pairs.{last_of}
use Rattle.art_model.specs.Stores.{held_inner, node_at, tree_node}
use Rattle.art_model.proofs.stores.Views.{held_in_inner}
use Rattle.art_engine.specs.NodeWalks.{HasRoom, below, children_of, reversed_children, left_after, after_turn}
use Rattle.art_engine.specs.declared.keeping.walk.Pending.{Pending}

-- the last of a list that ends with it
pub last-pushed : (old pending : List Pending) (next : Pending) → old ≡ pending ++ next ∷ [] → last_of old ≡ Some next
last-pushed old pending next is = ap last_of is ∙ go pending
  where
    go : (before : List Pending) → last_of (before ++ next ∷ []) ≡ Some next
    go [] = refl
    go (first ∷ []) = refl
    go (first ∷ second ∷ before) = go (second ∷ before)

-- a list without elements is empty
pub none_left : (pending : List Pending) → length pending ≡ 0 → pending ≡ []
none_left [] none = refl
none_left (next ∷ pending) none = absurd (omega arith)

module _ (depth : ℕ) where
  -- a child under its byte, at the depth
  abbrev pending_child : ℕ × OpaqueNodePtr → Pending
  pending_child slot = record { depth = depth; byte = Some slot.0; name = slot.1 }

  -- children with one more at the end
  reversed_children-push : (slots : Children) (slot : ℕ × OpaqueNodePtr) →
      reversed_children depth (slots ++ slot ∷ []) ≡ pending_child slot ∷ reversed_children depth slots
  reversed_children-push [] slot = refl
  reversed_children-push (other ∷ slots) slot = ap (λ below. below ++ pending_child other ∷ []) (reversed_children-push slots slot)

  -- there are as many nodes as children
  pub length-reversed_children : (slots : Children) → length (reversed_children depth slots) ≡ length slots
  length-reversed_children [] = refl
  length-reversed_children (slot ∷ slots) =
      let few = length-reversed_children slots in
      let all = length-append (reversed_children depth slots) (pending_child slot ∷ []) in omega arith

  -- room for what is below is room for the children
  pub room_for : (pending : List Pending) (slots : Children) (under : List Pending) (capacity : ℕ) → under ≡ reversed_children depth slots →
      length (pending ++ under) ≤ capacity → length pending + length slots ≤ capacity
  room_for pending slots under capacity is room = omega (arith, room, ap length is, length-append pending under, length-reversed_children slots)

  -- the last of the remaining children is pushed
  pub pushed : (pending : List Pending) (slot : ℕ × OpaqueNodePtr) (old rest : Children) (all : List Pending) →
      old ≡ rest ++ slot ∷ [] → pending ++ reversed_children depth old ≡ all → (pending ++ pending_child slot ∷ []) ++ reversed_children depth rest ≡ all
  pushed pending slot old rest all is so_far =
      append_assoc pending (pending_child slot ∷ []) (reversed_children depth rest)
      ∙ sym (ap (λ l. pending ++ l) (ap (reversed_children depth) is ∙ reversed_children-push rest slot)) ∙ so_far

module _ {K V : Type 0} (s : Nodes K V) where
  module _ (depth : ℕ) where
    -- an inner node has its own
    pub children-inner : (p : InnerPtr) → p.kind ≢ Leaf → (node : Inner) → Some node ≡ map.get s.inners p →
        children_of depth (node_at s (inner_name p)) ≡ reversed_children depth node.children
    children-inner p proper node there =
        ap (λ o. children_of depth (option_map (tree_node p.kind) o)) (held_in_inner s p.kind p.slot proper ∙ ap (option_map held_inner) (sym there))

  -- a step of a list with its last node
  after_turn-push : (pending : List Pending) (next : Pending) → after_turn s (pending ++ next ∷ []) ≡ pending ++ below s next
  after_turn-push [] next = refl
  after_turn-push (first ∷ []) next = refl
  after_turn-push (first ∷ second ∷ pending) next = ap (λ rest. first ∷ rest) (after_turn-push (second ∷ pending) next)

  -- and of one that ends with it
  pub after_turn-last : (old pending : List Pending) (next : Pending) → old ≡ pending ++ next ∷ [] → after_turn s old ≡ pending ++ below s next
  after_turn-last old pending next is = ap (after_turn s) is ∙ after_turn-push pending next

  module _ (root : OpaqueNodePtr) where
    -- there is room for what is left after so many steps, and after fewer
    abbrev pub HasRoomTo : ℕ → ℕ → Type 0
    HasRoomTo turns capacity = (earlier : ℕ) → earlier ≤ turns → length (left_after s root earlier) ≤ capacity

    -- and after one more step, with room for that
    pub room_next : (turns capacity more : ℕ) → capacity ≤ more → HasRoomTo turns capacity → length (left_after s root (suc turns)) ≤ more →
        HasRoomTo (suc turns) more
    room_next turns capacity more grows room next earlier few = elim (cases_order earlier (suc turns)) [
      | inl e ↦ subst (λ n. length (left_after s root n) ≤ more) (sym e) next
      | inr (inl less) ↦ let enough = room earlier (omega arith) in omega arith
      | inr (inr greater) ↦ absurd (omega arith)
    ]

    -- once nothing is left, nothing is
    left_none : (turns further n : ℕ) → n ≡ further + turns → left_after s root turns ≡ [] → left_after s root n ≡ []
    left_none turns zero n is none = let same : n ≡ turns = omega arith in ap (left_after s root) same ∙ none
    left_none turns (suc further) zero is none = absurd (omega arith)
    left_none turns (suc further) (suc n) is none = ap (after_turn s) (left_none turns further n (omega arith) none)

    -- so that there is room for all
    pub room_whole : (turns capacity : ℕ) → HasRoomTo turns capacity → left_after s root turns ≡ [] → HasRoom s root capacity
    room_whole turns capacity room none n = elim (cases_order turns n) [
      | inl e ↦ room n (omega arith)
      | inr (inl less) ↦ let nothing = ap length (left_none turns (n - turns) n (omega arith) none) in omega arith
      | inr (inr greater) ↦ room n (omega arith)
    ]
