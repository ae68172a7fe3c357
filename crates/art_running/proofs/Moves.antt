-- Steps from a tree in a store, whatever the other one holds.
use Rattle.std.proofs.Common.{◌≡◌, ℕ, List, [], refl, ap, sym, subst, Option, Some, None, Bool, option_map}
use Rattle.art_running.specs.Made.{MakesStep}
use Rattle.art_model.specs.Prelude.{SameNodes, Nodes, OpaqueNodePtr, IsCanonicalTree, IsCanonical, name_of, of_key, pairs_of, IsCanonicalRoot, IsRootOf, Tree}
use Rattle.art_model.proofs.stores.Canonical.{tree_radix}
use Rattle.art_running.specs.Answers.{Answers}
use Rattle.art_running.specs.Steps.{State, NothingChanged, IsSound, Step, pairs_in}
use Rattle.art_running.specs.Runs.{Shown, on, of_side, from_side, shown_state}
use Rattle.art_running.specs.declared.run.Command.{Command}
use Rattle.art_running.specs.declared.run.Reply.{Reply}
use Rattle.art_running.specs.declared.run.Reply.TheVariants.{Deleted, Found, MatchLen}
use Rattle.art_running.specs.declared.run.Side.{Side}
use Rattle.art_running.specs.declared.run.Side.TheVariants.{First, Second}

abbrev pub Layout : Type 0 → Type 0 → Type 0
Layout K V = Tree OpaqueNodePtr (K × V)

module _ {K V : Type 0} where
  -- a state whose tree is in a store, on a side
  abbrev pub in_store : Side → Nodes K V → Nodes K V → Option (Layout K V) → State K V
  in_store side present other tree = record { present = present; other = other; side = side; tree = tree }

  state_is : (old : State K V) (side : Side) (s z : Nodes K V) (root : Option OpaqueNodePtr) → shown_state old ≡ from_side side s z root →
      (old ≡ in_store side s z old.tree) × (option_map name_of old.tree ≡ root)
  state_is old side s z root is = go old.side side old.present old.other is
    where
      go : (a b : Side) (t w : Nodes K V) → from_side a t w (option_map name_of old.tree) ≡ from_side b s z root →
          (in_store a t w old.tree ≡ in_store b s z old.tree) × (option_map name_of old.tree ≡ root)
      go First First t w e = ((λ i. record { present = (e i).first; other = (e i).second; side = First; tree = old.tree }), ap (λ q. q.root) e)
      go Second Second t w e = ((λ i. record { present = (e i).second; other = (e i).first; side = Second; tree = old.tree }), ap (λ q. q.root) e)
      go First Second t w e = let side = ap (λ q. q.side) e in absurd cc
      go Second First t w e = let side = ap (λ q. q.side) e in absurd cc

  -- a tree sees no difference in a store with the same nodes
  pub nothing : {side : Side} {s t : Nodes K V} (z : Nodes K V) (tree : Option (Layout K V)) → SameNodes s t →
      NothingChanged (in_store side s z tree) (in_store side t z tree)
  nothing z tree same = record { side = refl; tree = refl; nodes = same; other = refl }

module _ {K V : Type 0} (bytes : K → List ℕ) (P : ℕ) where
  -- a root that is canonical for its layout's pairs
  pub own_pairs : {s : Nodes K V} {root : OpaqueNodePtr} {pairs : List (K × V)} {layout : Layout K V} → IsCanonicalTree (of_key bytes) P s root pairs layout →
      IsCanonicalTree (of_key bytes) P s (name_of layout) (pairs_of layout) layout
  own_pairs {s} {root} {pairs} {layout} by =
      subst (λ n. IsCanonicalTree (of_key bytes) P s n (pairs_of layout) layout) (sym by.stands.0.named)
      (subst (λ xs. IsCanonicalTree (of_key bytes) P s root xs layout) (sym (tree_radix by).1) by)

  -- the name of a canonical root is that of a canonical tree
  pub canonical_root : {s : Nodes K V} {root : Option OpaqueNodePtr} {name : OpaqueNodePtr} → root ≡ Some name →
      (pairs : List (K × V)) × IsCanonical (of_key bytes) P s root pairs →
      IsCanonicalRoot (of_key bytes) P s name
  canonical_root {s} is (pairs, canonical) = let (layout, by) = subst (λ r. IsCanonical (of_key bytes) P s r pairs) is canonical in (pairs, layout, by)

  -- a root is canonical for the pairs of a state that shows it
  sound_canonical : (old : State K V) (side : Side) (s z : Nodes K V) (root : Option OpaqueNodePtr) → shown_state old ≡ from_side side s z root →
      IsSound bytes P old → (pairs : List (K × V)) × IsCanonical (of_key bytes) P s root pairs
  sound_canonical old side s z root is sound =
      let (same, named) = state_is old side s z root is in
      go old.tree named (subst (IsSound bytes P) same sound)
    where
      go : (tree : Option (Layout K V)) → option_map name_of tree ≡ root → IsSound bytes P (in_store side s z tree) →
          (pairs : List (K × V)) × IsCanonical (of_key bytes) P s root pairs
      go None e h = subst (λ r. (pairs : List (K × V)) × IsCanonical (of_key bytes) P s r pairs) e ([], refl)
      go (Some layout) e h = subst (λ r. (pairs : List (K × V)) × IsCanonical (of_key bytes) P s r pairs) e (pairs_of layout, (layout, h))

  -- the same of both stores as they stand
  pub on_canonical : (side : Side) (s z : Nodes K V) (root : Option OpaqueNodePtr) (old : State K V) → shown_state old ≡ on side s z root →
      IsSound bytes P old → (pairs : List (K × V)) × IsCanonical (of_key bytes) P (of_side side s z) root pairs
  on_canonical First s z root old is sound = sound_canonical old First s z root is sound
  on_canonical Second s z root old is sound = sound_canonical old Second z s root is sound

  -- some state shows a canonical root, and is sound
  pub canonical_sound : (side : Side) (s z : Nodes K V) (root : Option OpaqueNodePtr) (pairs : List (K × V)) →
      IsCanonical (of_key bytes) P s root pairs → (old : State K V) × (shown_state old ≡ from_side side s z root) × IsSound bytes P old
  canonical_sound side s z None pairs h = (in_store side s z None, refl, refl)
  canonical_sound side s z (Some name) pairs (layout, by) =
      (in_store side s z (Some layout), ap (λ n. from_side side s z (Some n)) by.stands.0.named, own_pairs by)

  -- a canonical root with its tree
  pub record HasTree (s : Nodes K V) (root : Option OpaqueNodePtr) (pairs : List (K × V)) : Type 0 where
    pub tree : Option (Layout K V)
    pub shows : option_map name_of tree ≡ root
    pub pairs_are : pairs_in tree ≡ pairs
    pub is_root : IsRootOf (of_key bytes) P s root pairs tree
    pub sound : IsRootOf (of_key bytes) P s (option_map name_of tree) (pairs_in tree) tree

  pub has_tree : (s : Nodes K V) (root : Option OpaqueNodePtr) (pairs : List (K × V)) → IsCanonical (of_key bytes) P s root pairs → HasTree s root pairs
  has_tree s None pairs none = record { tree = None; shows = refl; pairs_are = sym none; is_root = none; sound = refl }
  has_tree s (Some name) pairs (layout, by) =
      record { tree = Some layout; shows = ap Some by.stands.0.named; pairs_are = (tree_radix by).1; is_root = by; sound = own_pairs by }

module _ {K V : Type 0} (bytes : K → List ℕ) (P : ℕ) (IsClone : K × V → K × V → Type 0) where
  -- what a step from a tree in a store, on either side, leads to
  abbrev pub StepFrom : Side → Nodes K V → Nodes K V → Nodes K V → Option (Layout K V) → Command K V → Reply K V → Option OpaqueNodePtr → Type 0
  StepFrom side s t z tree c r after =
      (new : Option (Layout K V)) × (option_map name_of new ≡ after) ×
      Step bytes P IsClone (in_store side s z tree) c r (in_store side t z new)

module _ {K V : Type 0} {IsClone : K × V → K × V → Type 0} (bytes : K → List ℕ) (P : ℕ) where
  -- a step to any state
  module _ (side : Side) {s z : Nodes K V} {c : Command K V} {r : Reply K V} (to : Shown K V) where
    makes_any : {root : Option OpaqueNodePtr} → ((tree : Option (Layout K V)) → option_map name_of tree ≡ root →
        IsSound bytes P (in_store side s z tree) → (new : State K V) × (shown_state new ≡ to) × Step bytes P IsClone (in_store side s z tree) c r new) →
        MakesStep bytes P IsClone (from_side side s z root) c r to
    makes_any {root} step old is sound =
        let (same, named) = state_is old side s z root is in
        let (new, shows, made) = step old.tree named (subst (IsSound bytes P) same sound) in
        (new, shows, subst (λ q. Step bytes P IsClone q c r new) (sym same) made)

    -- from the tree of a canonical root
    pub any_from_root : {name : OpaqueNodePtr} → ((layout : Layout K V) → IsCanonicalTree (of_key bytes) P s name (pairs_of layout) layout → (new : State K V) ×
        (shown_state new ≡ to) × Step bytes P IsClone (in_store side s z (Some layout)) c r new) →
        MakesStep bytes P IsClone (from_side side s z (Some name)) c r to
    any_from_root {name} step = makes_any go
      where
        go : (tree : Option (Layout K V)) → option_map name_of tree ≡ Some name → IsSound bytes P (in_store side s z tree) → (new : State K V) ×
            (shown_state new ≡ to) × Step bytes P IsClone (in_store side s z tree) c r new
        go None e h = absurd cc
        go (Some layout) e h =
            let n : name_of layout ≡ name = cc in
            step layout (subst (λ m. IsCanonicalTree (of_key bytes) P s m (pairs_of layout) layout) n h)

  module _ (side : Side) {s t : Nodes K V} {c : Command K V} {r : Reply K V} (z : Nodes K V) where
    makes_step : {root after : Option OpaqueNodePtr} →
        ((tree : Option (Layout K V)) → option_map name_of tree ≡ root → IsSound bytes P (in_store side s z tree) →
        StepFrom bytes P IsClone side s t z tree c r after) → MakesStep bytes P IsClone (from_side side s z root) c r (from_side side t z after)
    makes_step {root} {after} step old is sound =
        let (same, named) = state_is old side s z root is in
        let (new, shows, made) = step old.tree named (subst (IsSound bytes P) same sound) in
        (in_store side t z new, ap (from_side side t z) shows, subst (λ q. Step bytes P IsClone q c r (in_store side t z new)) (sym same) made)

    -- a step from no tree
    pub from_none : {after : Option OpaqueNodePtr} → StepFrom bytes P IsClone side s t z None c r after →
        MakesStep bytes P IsClone (from_side side s z None) c r (from_side side t z after)
    from_none {after} step = makes_step (λ tree named sound. go tree named)
      where
        go : (tree : Option (Layout K V)) → option_map name_of tree ≡ None → StepFrom bytes P IsClone side s t z tree c r after
        go None e = step
        go (Some layout) e = absurd cc

    -- a step from the tree of a canonical root
    pub from_root : {after : Option OpaqueNodePtr} {name : OpaqueNodePtr} →
        ((layout : Layout K V) → IsCanonicalTree (of_key bytes) P s name (pairs_of layout) layout →
        StepFrom bytes P IsClone side s t z (Some layout) c r after) → MakesStep bytes P IsClone (from_side side s z (Some name)) c r (from_side side t z after)
    from_root {after} {name} step = makes_step go
      where
        go : (tree : Option (Layout K V)) → option_map name_of tree ≡ Some name → IsSound bytes P (in_store side s z tree) →
            StepFrom bytes P IsClone side s t z tree c r after
        go None e h = absurd cc
        go (Some layout) e h =
            let n : name_of layout ≡ name = cc in
            step layout (subst (λ m. IsCanonicalTree (of_key bytes) P s m (pairs_of layout) layout) n h)

  -- ---- commands that only read, and deletions that find nothing: the tree stays

  module _ (side : Side) {s : Nodes K V} {c : Command K V} (z : Nodes K V) where
    -- what is required of the tree of a root is the reply of a step
    pub asked : {r : Reply K V} {name : OpaqueNodePtr} → ((layout : Layout K V) → IsCanonicalTree (of_key bytes) P s name (pairs_of layout) layout →
        IsSound bytes P (in_store side s z (Some layout)) → Step bytes P IsClone (in_store side s z (Some layout)) c r (in_store side s z (Some layout))) →
        MakesStep bytes P IsClone (from_side side s z (Some name)) c r (from_side side s z (Some name))
    asked step = from_root side z (λ layout by. (Some layout, ap Some by.stands.0.named, step layout by (own_pairs bytes P by)))

    module _ (tree : Option (Layout K V)) where
      pub found_step : {found : Bool} → Answers bytes IsClone (pairs_in tree) c (Found found) (pairs_in tree) →
          IsSound bytes P (in_store side s z tree) → Step bytes P IsClone (in_store side s z tree) c (Found found) (in_store side s z tree)
      found_step answers sound = record { answers = answers; refuses = tt; sound = sound; changes = nothing z tree (refl, refl); promises = refl }

      pub match_step : {len : Option ℕ} → Answers bytes IsClone (pairs_in tree) c (MatchLen len) (pairs_in tree) →
          IsSound bytes P (in_store side s z tree) → Step bytes P IsClone (in_store side s z tree) c (MatchLen len) (in_store side s z tree)
      match_step answers sound = record { answers = answers; refuses = tt; sound = sound; changes = nothing z tree (refl, refl); promises = refl }

      pub absent_step : Answers bytes IsClone (pairs_in tree) c (Deleted None) (pairs_in tree) →
          IsSound bytes P (in_store side s z tree) → Step bytes P IsClone (in_store side s z tree) c (Deleted None) (in_store side s z tree)
      absent_step answers sound = record { answers = answers; refuses = tt; sound = sound; changes = nothing z tree (refl, refl); promises = refl }
