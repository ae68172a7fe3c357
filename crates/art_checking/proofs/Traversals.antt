-- The traversal of a check: the nodes above the current one, and what was passed and met so far.
use Rattle.std.proofs.Common.{◌≡◌, ◌≢◌, ℕ, suc, ◌+◌, ◌*◌, ◌-◌, ◌<◌, ◌≤◌, List, [], ◌∷◌, ◌++◌, length, length-append, reverse, take, Some, refl, ap, sym, ◌∙◌, subst, arith}
use Rattle.std.proofs.Math.Seq.{take-append_seam}
use Rattle.std.specs.FinMap as map
use Rattle.art_model.specs.Prelude.{Inner, Children, IsRising, kind_capacity, kind_least, inner_name, leaf_name, Nodes, InnerPtr, LeafPtr, NodeType, Node4, Node16, Node48, Node256, Leaf, OpaqueNodePtr, Reaches, slots_of}
use Rattle.art_checking.specs.Checked.{AreReached, IsEntered, IsFirstMet, IsLeafAt, IsMetTree, IsPassed, IsStart, IsWalked, AllBefore}
use Rattle.art_checking.specs.Meetings.{place_in}
use Rattle.art_checking.specs.declared.well_formed.check.Above.{Above}
use Rattle.art_checking.specs.declared.well_formed.seen.Seen.{Seen}
use Rattle.art_checking.proofs.Passed.{met_tree, passed_all, passed_inner, passed_leaf}
use Rattle.art_checking.proofs.Turns.{HasTurned, IsTurn, free, none_turned, reached, turn_from, turned}
use Rattle.art_checking.proofs.Walked.{met_walked, none_after, reach_root, walked_also}

module _ {K V : Type 0} (bytes : K × V → List ℕ) (P : ℕ) (s : Nodes K V) where
  -- An inner node was met for the first time, at a place that ends at this depth.
  pub record IsNode (before old : Seen) (place : List ℕ) (name : InnerPtr) (depth : ℕ) (node : Inner) : Type 0 where
    pub first : IsFirstMet before old (inner_name name) place
    pub proper : name.kind ≢ Leaf
    pub there : map.get s.inners name ≡ Some node
    pub rising : IsRising node.children
    pub bound : length node.children ≤ kind_capacity name.kind
    pub deep : depth ≡ length place

  -- A child of this node, which was met after the nodes above it, is next.
  pub record IsAboveChild (Outer : Seen → List ℕ → OpaqueNodePtr → Type 0) (f : Above) (now : Seen) (pushed : List ℕ) (child : OpaqueNodePtr) : Type 0 where
    pub before : Seen
    pub old : Seen
    pub place : List ℕ
    pub whole : List ℕ
    pub node : Inner
    pub byte : ℕ
    pub outer : Outer before place (inner_name f.name)
    pub met : IsNode before old place f.name f.depth node
    pub turn : IsTurn bytes P s old now place whole pushed f.name node byte child f.children

  -- The nodes above a name, the innermost first, up to the root: of each the child below it is being checked.
  abbrev pub AreAbove : OpaqueNodePtr → List Above → Seen → List ℕ → OpaqueNodePtr → Type 0
  AreAbove root [] now place name = IsStart now × (place ≡ []) × (name ≡ root)
  AreAbove root (f ∷ fs) now place name = IsAboveChild (AreAbove root fs) f now place name

  -- The children of a node are being checked, and these are left.
  pub record IsAt (root : OpaqueNodePtr) (above : List Above) (now : Seen) (whole : List ℕ) (name : InnerPtr) (depth : ℕ) (left : Children) : Type 0 where
    pub before : Seen
    pub old : Seen
    pub place : List ℕ
    pub node : Inner
    pub outer : AreAbove root above before place (inner_name name)
    pub met : IsNode before old place name depth node
    pub turns : HasTurned bytes P s old now place whole name node left

-- ---- all that was met is reached

module _ {K V : Type 0} (bytes : K × V → List ℕ) (P : ℕ) (s : Nodes K V) (root : OpaqueNodePtr) where
  node_reached : {before old : Seen} {place : List ℕ} {name : InnerPtr} {depth : ℕ} {node : Inner} → IsNode bytes P s before old place name depth node →
      Reaches bytes P s root place (inner_name name) → AreReached bytes P s root (place_in before) → AreReached bytes P s root (place_in old)
  node_reached {before} {old} {place} {name} met reach all =
      let walked : IsWalked bytes P s (place_in before) (place_in old) place (inner_name name) = met_walked met.first.met in
      walked.reached root all reach

  above_reached : (above : List Above) (now : Seen) (place : List ℕ) (name : OpaqueNodePtr) → AreAbove bytes P s root above now place name →
      Reaches bytes P s root place name × AreReached bytes P s root (place_in now)
  above_reached [] now place name (start, at, is) = (
    subst (λ n. Reaches bytes P s root place n) (sym is)
        (subst (λ p. Reaches bytes P s root p root) (sym at) (reach_root bytes P s root)),
    λ n other e. let h = start.none n in absurd cc,
  )
  above_reached (f ∷ fs) now place name at =
      let (reach, all) = above_reached fs at.before at.place (inner_name f.name) at.outer in
      (reached at.turn root reach, at.turn.walked.walked.reached root (node_reached at.met reach all) reach)

module _ {K V : Type 0} {bytes : K × V → List ℕ} {P : ℕ} {s : Nodes K V} where
  module _ {root : OpaqueNodePtr} {above : List Above} {now : Seen} {whole : List ℕ} {name : InnerPtr} {depth : ℕ} {left : Children}
      (at : IsAt bytes P s root above now whole name depth left) where
    pub own_reached : Reaches bytes P s root at.place (inner_name name)
    own_reached = (above_reached bytes P s root above at.before at.place (inner_name name) at.outer).0

    pub all_reached : AreReached bytes P s root (place_in now)
    all_reached =
        let (reach, all) = above_reached bytes P s root above at.before at.place (inner_name name) at.outer in
        at.turns.walked.walked.reached root (node_reached bytes P s root at.met reach all) reach

    -- the bytes that lead to it
    pub cut_off : take depth whole ≡ at.place
    cut_off = ap (λ n. take n whole) at.met.deep ∙ ap (take (length at.place)) at.turns.read.is ∙ take-append_seam at.place at.turns.read.part

    -- a node has few children, so few are left
    pub few_left : length left ≤ kind_capacity name.kind
    few_left =
        let all = ap length at.turns.passed.slots in
        let both = length-append (slots_of at.turns.passed.children) left in
        let most = at.met.bound in
        omega (arith, all, both, most)

  -- ---- a node is reached

  pub entered : {root : OpaqueNodePtr} {above : List Above} {before old : Seen} {place read : List ℕ} {name : InnerPtr} {depth : ℕ}
      {node : Inner} {left : Children} →
      AreAbove bytes P s root above before place (inner_name name) → AllBefore (place_in before) place →
      IsFirstMet before old (inner_name name) place → name.kind ≢ Leaf →
      map.get s.inners name ≡ Some node → depth ≡ length place → IsEntered bytes P s place read name node left →
      IsAt bytes P s root above old read name depth left
  entered {before = before} {old = old} {place = place} {node = node} outer none first proper there deep enters = record {
    before = before;
    old = old;
    place = place;
    node = node;
    outer = outer;
    met = record { first = first; proper = proper; there = there; rising = enters.rising; bound = enters.bound; deep = deep };
    turns = none_turned (sym enters.all) enters.prefix (none_after first.met none);
  }

  -- the root is reached
  pub started : {above : List Above} {start old : Seen} {place read : List ℕ} {name : InnerPtr} {node : Inner} {left : Children} → IsStart start →
      IsFirstMet start old (inner_name name) [] → name.kind ≢ Leaf → map.get s.inners name ≡ Some node → place ≡ [] → above ≡ [] →
      IsEntered bytes P s place read name node left → IsAt bytes P s (inner_name name) (reverse above) old read name 0 left
  started {above} {start} {old} {place} {read} {name} {node} {left} starts first proper there at none enters =
      subst (λ l. IsAt bytes P s (inner_name name) (reverse l) old read name 0 left) (sym none)
      (entered {root = inner_name name} {above = []} (starts, refl, refl) (λ n other e. let h = starts.none n in absurd cc) first proper there refl
      (subst (λ p. IsEntered bytes P s p read name node left) at enters))

  -- ---- a child is next

  module _ {root : OpaqueNodePtr} {above : List Above} {now : Seen} {whole pushed : List ℕ} {name : InnerPtr} {depth : ℕ}
      {rest left : Children} {byte : ℕ} {child : OpaqueNodePtr}
      (at : IsAt bytes P s root above now whole name depth rest) (steps : rest ≡ (byte, child) ∷ left) (more : pushed ≡ whole ++ byte ∷ []) where
    turn_of : IsTurn bytes P s at.old now at.place whole pushed name at.node byte child left
    turn_of = turn_from at.met.proper at.met.there at.met.rising steps at.turns more

    pub child_is_reached : Reaches bytes P s root pushed child
    child_is_reached = reached turn_of root (own_reached at)

    pub child_is_free : AllBefore (place_in now) pushed
    child_is_free = free turn_of

    -- its parent is the innermost node above it
    pub parent_above : AreAbove bytes P s root (record { name = name; depth = depth; children = left } ∷ above) now pushed child
    parent_above = record {
      before = at.before;
      old = at.old;
      place = at.place;
      whole = whole;
      node = at.node;
      byte = byte;
      outer = at.outer;
      met = at.met;
      turn = turn_of;
    }

    -- once all below it was passed the others follow
    turn_over : {new : Seen} {behind cut : List ℕ} {len : ℕ} → IsPassed bytes P s now new pushed child →
        IsWalked bytes P s (place_in now) (place_in new) pushed child →
        behind ≡ pushed → length behind ≡ len → cut ≡ take (len - 1) behind → IsAt bytes P s root above new cut name depth left
    turn_over passed walked kept long cut = record {
      before = at.before;
      old = at.old;
      place = at.place;
      node = at.node;
      outer = at.outer;
      met = at.met;
      turns = turned turn_of passed walked kept long cut;
    }

    -- a leaf
    pub leaf_over : {new : Seen} {cut : List ℕ} {len : ℕ} (leaf_ptr : LeafPtr) → IsFirstMet now new child pushed →
        leaf_name leaf_ptr ≡ child → IsLeafAt bytes P s leaf_ptr pushed →
        length pushed ≡ len → cut ≡ take (len - 1) pushed → IsAt bytes P s root above new cut name depth left
    leaf_over leaf_ptr first is stands long cut = turn_over (passed_leaf first leaf_ptr is refl stands) (met_walked first.met) refl long cut

  -- ---- a node is done

  module _ {root : OpaqueNodePtr} {above : List Above} {now : Seen} {whole : List ℕ} {name : InnerPtr} {depth : ℕ} {rest : Children}
      (at : IsAt bytes P s root above now whole name depth rest) (none : rest ≡ []) (enough : kind_least name.kind ≤ length at.node.children) where
    node_passed : IsPassed bytes P s at.before now at.place (inner_name name)
    node_passed =
        let has = subst (λ l. HasTurned bytes P s at.old now at.place whole name at.node l) none at.turns in
        passed_inner at.met.first name refl at.met.proper
        (passed_all has.read.part name at.node at.met.proper at.met.there has.passed has.read.long has.read.stored at.met.rising enough at.met.bound)

    node_walked : IsWalked bytes P s (place_in at.before) (place_in now) at.place (inner_name name)
    node_walked = walked_also refl (met_walked at.met.first.met) at.turns.walked.walked

    -- the node above it continues with its other children
    pub parent_goes_on : (f : Above) (fs : List Above) → above ≡ f ∷ fs → {behind cut : List ℕ} {len : ℕ} → behind ≡ at.place →
        length behind ≡ len → cut ≡ take (len - 1) behind →
        IsAt bytes P s root fs now cut f.name f.depth f.children
    parent_goes_on f fs is kept long cut =
        let outer = subst (λ l. AreAbove bytes P s root l at.before at.place (inner_name name)) is at.outer in
        record {
          before = outer.before;
          old = outer.old;
          place = outer.place;
          node = outer.node;
          outer = outer.outer;
          met = outer.met;
          turns = turned outer.turn node_passed node_walked kept long cut;
        }

    -- there is none above it: all was passed
    pub root_passed : above ≡ [] → IsMetTree bytes P s now root
    root_passed is =
        let (start, at_root, is_root) = subst (λ l. AreAbove bytes P s root l at.before at.place (inner_name name)) is at.outer in
        met_tree start.leaves start.count (subst (λ n. IsPassed bytes P s at.before now [] n) is_root
        (subst (λ p. IsPassed bytes P s at.before now p (inner_name name)) at_root node_passed))

-- ---- the list of the nodes above

pub one_more_above : (items rest : List Above) (f : Above) → items ≡ rest ++ f ∷ [] → length items ≡ length rest + 1
one_more_above items rest f e = ap length e ∙ length-append rest (f ∷ [])

-- ---- the measure

pub capacity_most : (kind : NodeType) → kind_capacity kind ≤ 256
capacity_most Node4 = omega arith
capacity_most Node16 = omega arith
capacity_most Node48 = omega arith
capacity_most Node256 = omega arith
capacity_most Leaf = omega arith

module _ (m n a b k l : ℕ) where
  -- an inner node is met
  pub falls_in : n < m → b ≡ a + 1 → l ≤ 256 → 600 * n + 300 * b + l < 600 * m + 300 * a + k
  falls_in less more few = omega arith

  -- an inner node is done
  pub falls_out : n ≡ m → a ≡ b + 1 → l ≤ 256 → 600 * n + 300 * b + l < 600 * m + 300 * a + k
  falls_out same less few = omega arith

  -- a leaf is met
  pub falls_by : n ≤ m → b ≡ a → k ≡ suc l → 600 * n + 300 * b + l < 600 * m + 300 * a + k
  falls_by no_more same less = omega arith
