-- The nodes that stay at each change keep their names: those in the hole, and so all, inner nodes and leaves.
use Rattle.std.proofs.Common.{◌≡◌, ◌≢◌, ℕ, ◌+◌, List, [], ◌∷◌, ◌++◌, length, take, map, refl, ap, ap₂, sym, ◌∙◌, subst, append-nil, true, false, Bool, cond, ltb, inl, inr}
use Rattle.std.proofs.lemmas.Bool.{true≢false}
use Rattle.art_model.specs.Prelude.{Precedes, Pairwise, IsMap, Tree, leaf, inner, Subtrees, child, no_child, NodeHeader, IsRadix, bytes_of, join, entries_of, Frame, plug, least_below, inner_nodes, inner_nodes_below, IsIn}
use Rattle.art_model.proofs.lists.Lists.{Each-weaker, each_unmap, in_left}
use Rattle.art_model.proofs.keys.Keys.{front_related}
use Rattle.art_model.proofs.radix.Radix.{radix_map}
use Rattle.art_model.proofs.places.Paths.{entries_before, entries_after, entries_of-plug, pairs_of-leaves}
use Rattle.art_model.proofs.changes.Changes.{two_children}
use Rattle.art_model.proofs.lists.Entries.{Keep, keep_among, keep_between}
use Rattle.art_model.proofs.places.Wholes.{KeepNames, kept_among, kept_head, whole_is, whole_differ, inner_nodes_below-join}

module _ {N A : Type 0} (bytes : A → List ℕ) where
  -- a node whose prefix lost as many bytes as its depth gained, or gained as many as its depth lost, has the same inner nodes
  pub inner_nodes-moved : (d e : ℕ) (n : N) (h head : NodeHeader) (cs : Subtrees N A) → head.kind ≡ h.kind → e + head.length_of ≡ d + h.length_of →
      inner_nodes bytes e (inner n head cs) ≡ inner_nodes bytes d (inner n h cs)
  inner_nodes-moved d e n h head cs kind deep = ap₂ (λ k z. (k, take z (least_below bytes cs), n) ∷ inner_nodes_below bytes (z + 1) cs) kind deep

module _ {N A : Type 0} (bytes : A → List ℕ) (P : ℕ) where
  -- a branch: the nodes of the subtree are among those of the branch
  pub kept_branch : (place : List ℕ) (t u : Tree N A) (m n : N) (h : NodeHeader) (b c : ℕ) (new : A) →
      IsRadix bytes P place (inner m h (two_children b u c (leaf n new))) →
      inner_nodes bytes (length place) t ≡ inner_nodes bytes (length place + h.length_of + 1) u →
      KeepNames (inner_nodes bytes (length place) t) (inner_nodes bytes (length place) (inner m h (two_children b u c (leaf n new))))
  kept_branch place t u m n h b c new radix same =
      let d = length place + h.length_of + 1 in
      let branch = inner m h (two_children b u c (leaf n new)) in
      kept_among (inner_nodes bytes (length place) branch) (inner_nodes bytes (length place) t) (inner_nodes bytes (length place) branch)
      (whole_differ bytes P branch place radix)
      (λ e i. inr (subst (IsIn e) (sym (below d (ltb b c))) (in_left e (inner_nodes bytes d u) [] (subst (IsIn e) same i)))) (λ e i. i)
    where
      below : (d : ℕ) (first : Bool) → inner_nodes_below bytes d
          (cond first (child b u (child c (leaf n new) no_child)) (child c (leaf n new) (child b u no_child))) ≡ inner_nodes bytes d u ++ []
      below d true = refl
      below d false = refl

  -- Other leaves among a node's children: the node has the old name, or another kind.
  pub kept_children : (place : List ℕ) (m node : N) (h head : NodeHeader) (cs ds : Subtrees N A) (old : IsRadix bytes P place (inner m h cs))
      (new : IsRadix bytes P place (inner node head ds)) → new.0 ≡ old.0 →
      ((d : ℕ) → inner_nodes_below bytes d ds ≡ inner_nodes_below bytes d cs) → (h.kind ≡ head.kind → m ≡ node) →
      KeepNames (inner_nodes bytes (length place) (inner m h cs)) (inner_nodes bytes (length place) (inner node head ds))
  kept_children place m node h head cs ds (part, e, two, up, below) (part', e', two', up', below') same others named =
      let len : head.length_of ≡ h.length_of = ap (λ z. z.length_of) e' ∙ ap length same ∙ sym (ap (λ z. z.length_of) e) in
      let whole : take (length place + h.length_of) (least_below bytes cs) ≡ take (length place + head.length_of) (least_below bytes ds) =
      whole_is bytes P h place part (length (bytes_of cs)) cs e two below ∙ ap (λ z. place ++ z) (sym same)
      ∙ sym (whole_is bytes P head place part' (length (bytes_of ds)) ds e' two' below') in
      let d = length place + h.length_of + 1 in
      let rest : inner_nodes_below bytes (length place + head.length_of + 1) ds ≡ inner_nodes_below bytes d cs =
      ap (λ z. inner_nodes_below bytes (length place + z + 1) ds) len ∙ others d in
      subst (λ xs. KeepNames (inner_nodes bytes (length place) (inner m h cs))
      ((head.kind, take (length place + head.length_of) (least_below bytes ds), node) ∷ xs)) (sym rest)
      (kept_head (h.kind, take (length place + h.length_of) (least_below bytes cs), m)
      (head.kind, take (length place + head.length_of) (least_below bytes ds), node) (inner_nodes_below bytes d cs) whole named
      (whole_differ bytes P (inner m h cs) place (part, e, two, up, below)))

  -- a further leaf or one less among children makes no difference to the inner nodes below
  pub inner_nodes-leaf : (d : ℕ) (l r : Subtrees N A) (b : ℕ) (n : N) (x : A) →
      inner_nodes_below bytes d (join l (child b (leaf n x) r)) ≡ inner_nodes_below bytes d (join l r)
  inner_nodes-leaf d l r b n x = inner_nodes_below-join bytes d l (child b (leaf n x) r) ∙ sym (inner_nodes_below-join bytes d l r)

  -- The one child that is left replaces its parent: its nodes were among those of the parent.
  pub kept_lifted : (place : List ℕ) (m n : N) (h : NodeHeader) (l r : Subtrees N A) (b c : ℕ) (x : A) (v u : Tree N A) →
      IsRadix bytes P place (inner m h (join l (child b (leaf n x) r))) → join l r ≡ child c v no_child →
      inner_nodes bytes (length place) u ≡ inner_nodes bytes (length place + h.length_of + 1) v →
      KeepNames (inner_nodes bytes (length place) (inner m h (join l (child b (leaf n x) r)))) (inner_nodes bytes (length place) u)
  kept_lifted place m n h l r b c x v u radix one same =
      let d = length place + h.length_of + 1 in
      let t = inner m h (join l (child b (leaf n x) r)) in
      let below : inner_nodes_below bytes d (join l (child b (leaf n x) r)) ≡ inner_nodes bytes d v ++ [] =
      inner_nodes-leaf d l r b n x ∙ ap (inner_nodes_below bytes d) one in
      kept_among (inner_nodes bytes (length place) t) (inner_nodes bytes (length place) t) (inner_nodes bytes (length place) u)
      (whole_differ bytes P t place radix)
      (λ e i. i) (λ e i. inr (subst (IsIn e) (sym below) (in_left e (inner_nodes bytes d v) [] (subst (IsIn e) same i))))

-- ---- leaves: a key that stays keeps its leaf's name

module _ {N A : Type 0} (bytes : A → List ℕ) (P : ℕ) where
  -- an entry of the second list that has the key of one of the first has its name
  abbrev pub KeepLeaves : List (A × N) → List (A × N) → Type 0
  KeepLeaves = Keep (λ e. bytes e.0) (λ e. e.1) (λ e f. Unit {0})

  -- the entries of a radix tree have different keys
  pub keys_differ : (t : Tree N A) (place : List ℕ) → IsRadix bytes P place t → Pairwise (λ e f. bytes e.0 ≢ bytes f.0) (entries_of t)
  keys_differ t place h = from_pairs (entries_of t) (subst (IsMap bytes) (sym (pairs_of-leaves t)) (radix_map bytes P t place h))
    where
      apart : (x y : A) → Precedes (bytes x) (bytes y) → bytes x ≢ bytes y
      apart x y o e = true≢false (sym (front_related (bytes x) (bytes y) ([], sym e ∙ sym (append-nil (bytes x)))) ∙ o.1)

      from_pairs : (es : List (A × N)) → IsMap bytes (map (λ e. e.0) es) → Pairwise (λ e f. bytes e.0 ≢ bytes f.0) es
      from_pairs [] h = tt
      from_pairs (e ∷ es) h = (
        Each-weaker (λ f. Precedes (bytes e.0) (bytes f.0)) (λ f. bytes e.0 ≢ bytes f.0) (λ f o. apart e.0 f.0 o) es
            (each_unmap (λ f. f.0) (λ y. Precedes (bytes e.0) (bytes y)) es h.0),
        from_pairs es h.1,
      )

  -- Keys that stay keep their leaves' names in the whole tree where those in the hole do.
  pub kept_leaves : (fs : List (Frame N A)) (t u : Tree N A) → IsRadix bytes P [] (plug fs t) → IsRadix bytes P [] (plug fs u) →
      KeepLeaves (entries_of t) (entries_of u) → KeepLeaves (entries_of (plug fs t)) (entries_of (plug fs u))
  kept_leaves fs t u rt ru local =
      let was = entries_of-plug fs t in
      let is = entries_of-plug fs u in
      let R = λ (e f : A × N). bytes e.0 ≢ bytes f.0 in
      subst (λ xs. KeepLeaves xs (entries_of (plug fs u))) (sym was)
      (subst (λ xs. KeepLeaves (entries_before fs ++ entries_of t ++ entries_after fs) xs) (sym is)
      (keep_between (λ e. bytes e.0) (λ e. e.1) (λ e f. Unit {0}) (entries_before fs) (entries_of t) (entries_of u) (entries_after fs)
      (subst (Pairwise R) was (keys_differ (plug fs t) [] rt)) (subst (Pairwise R) is (keys_differ (plug fs u) [] ru)) local))

  -- the leaves in the hole are among those of the new tree, or the other way round: so in each insertion and deletion
  pub kept_leaves_more : (t u : Tree N A) (place : List ℕ) → IsRadix bytes P place u →
      ((e : A × N) → IsIn e (entries_of t) → IsIn e (entries_of u)) → KeepLeaves (entries_of t) (entries_of u)
  kept_leaves_more t u place radix among =
      keep_among (λ e. bytes e.0) (λ e. e.1) (λ e f. Unit {0}) (entries_of u) (entries_of t) (entries_of u)
      (keys_differ u place radix) among (λ e i. i)

  -- those of the new tree are among the old ones
  pub kept_leaves_fewer : (t u : Tree N A) (place : List ℕ) → IsRadix bytes P place t →
      ((e : A × N) → IsIn e (entries_of u) → IsIn e (entries_of t)) → KeepLeaves (entries_of t) (entries_of u)
  kept_leaves_fewer t u place radix among =
      keep_among (λ e. bytes e.0) (λ e. e.1) (λ e f. Unit {0}) (entries_of t) (entries_of t) (entries_of u)
      (keys_differ t place radix) (λ e i. i) among

  -- one leaf replaces another with its name
  pub kept_leaf : (n : N) (x new : A) → KeepLeaves (entries_of (leaf n x)) (entries_of (leaf n new))
  kept_leaf n x new e f (inl i) (inl j) alike same = ap (λ z. z.1) (sym i) ∙ ap (λ z. z.1) j
  kept_leaf n x new e f (inl i) (inr j) alike same = absurd j
  kept_leaf n x new e f (inr i) j alike same = absurd i
