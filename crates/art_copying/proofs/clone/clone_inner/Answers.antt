use Rattle.std.proofs.Common.{◌∙◌, ◌++◌, [], ◌∷◌, reverse, Ok, None, IfSome, ap, sym, subst, rules}
use Rattle.std.specs.FinMap as map
use Rattle.std.specs.declared.alloc.AllocError.{AllocError}
use Rattle.art_model.specs.Prelude.{IsPairClone}
use Rattle.art_model.proofs.stores.Lessened.{lessened_twice}
use Rattle.art_copying.specs.declared.clone.Above.{Above}
use Rattle.art_copying.specs.Cloned.{IsBegun, IsCloned}
use Rattle.art_copying.proofs.Cloning.{has_ends}
use Rattle.art_model.proofs.lists.Lists.{reverse-empty, reverse-last, some_of}
use Rattle.art_copying.proofs.Copying.{IsCopying, all_undone, begun_less, child_begun, child_copied, child_counts, child_inner, child_leaf}
use Rattle.art_copying.proofs.Copying.{copy_can_go, copy_undone, falls_by, falls_in, falls_out, its_copied, its_next, left_above}
use Rattle.art_copying.proofs.Copying.{left_above-more, next_of, outer_goes_on, outer_refused, refused_here, root_there, size_at, sizes_at}
use Rattle.art_copying.proofs.Copying.{started, whole_copied}
use Rattle.art_copying.proofs.clone.clone_inner.Goals as goal
use Rattle.art_copying.proofs.clone.clone_inner.Goals.{in-Leaf+in_default-clone_leaf, in-Inner+then-is_err, in-Inner+else-is_err+in_default-begin}

pub begin-requires : goal.begin-requires
begin-requires g c =
    let (tree, full) = c.requires.tree in
    (search rules, root_there c.args.store.now c.requires.proper tree full)

pub children-init : goal.children-init
children-init g c = record {
  copying = λ tree full.
      let (node, there) = some_of (map.get c.args.store.now.inners c.args.root) (root_there c.args.store.now c.requires.proper tree full) in
      let begun =
      subst (λ o. IfSome o (λ node. IsBegun c.args.into.now c.begin.new.into c.args.root node c.in-Ok.copy c.in-Ok.children))
      there c.in-Ok.ensures.begun in
      started c.requires.proper full there c.new-above.ensures.items begun;
  lessened = c.in-Ok.ensures.lessened;
}

-- ---- a node is complete

pub clone_of-done-requires : goal.clone_of-done-requires
clone_of-done-requires g c =
    let (tree, full) = c.requires.tree in
    has_ends c.children.ends c.in_default-next.ensures.steps.0 (c.children.invariant.copying tree full).cloning

pub returns-in_default-pop : goal.returns-in_default-pop
returns-in_default-pop g c = record {
  copied = λ tree full. whole_copied (c.children.invariant.copying tree full)
      c.in_default-next.ensures.steps.0 c.clone_of-done.ensures.first c.clone_of-done.ensures.last
      (c.clone_of-done.ensures.root ∙ c.to_opaque.ensures)
      (reverse-empty c.children.above.items c.children.above.len c.children.above.ok.0 c.in_default-pop.ensures.cases.0);
  leaves = tt;
  inners = tt;
  lessened = c.children.invariant.lessened;
}

pub add_copy-requires : goal.add_copy-requires
add_copy-requires g c =
    let (tree, full) = c.requires.tree in
    let is = c.children.invariant.copying tree full in
    let named = c.clone_of-done.ensures.root ∙ c.to_opaque.ensures in
    let f = c.in-Some-pop.outer in
    let fs = reverse c.pop.new.self.items in
    let e = reverse-last c.children.above.items c.pop.new.self.items f c.in-Some-pop.ensures.items in
    let next = its_next is c.in_default-next.ensures.steps.0 c.clone_of-done.ensures.first c.clone_of-done.ensures.last named f fs e in
    let copied = its_copied is c.in_default-next.ensures.steps.0 c.clone_of-done.ensures.first c.clone_of-done.ensures.last named f fs e in (
      search rules,
      (
        next.last_there c.children.into c.clone_of-done.result copied,
        (next.first_there c.children.into c.clone_of-done.result copied, next.place c.children.into c.clone_of-done.result copied),
      ),
    )

pub children-preserved-in_default-next : goal.children-preserved-in_default-next
children-preserved-in_default-next g c = record {
  copying = λ tree full.
      outer_goes_on (c.children.invariant.copying tree full)
      c.in_default-next.ensures.steps.0 c.clone_of-done.ensures.first c.clone_of-done.ensures.last
      (c.clone_of-done.ensures.root ∙ c.to_opaque.ensures)
      c.in-Some-pop.outer (reverse c.pop.new.self.items)
      (reverse-last c.children.above.items c.pop.new.self.items c.in-Some-pop.outer c.in-Some-pop.ensures.items)
      c.add_copy.ensures.first c.add_copy.ensures.last c.add_copy.ensures.leaves c.add_copy.ensures.inners c.add_copy.ensures.promise;
  lessened = rw c.add_copy.ensures.promise c.children.invariant.lessened;
}

pub children-smaller-in_default-next : goal.children-smaller-in_default-next
children-smaller-in_default-next g c =
    let s = c.args.store.now in
    let items = c.pop.new.self.items in
    falls_out 0 (sizes_at s c.children.children) 0 (left_above s c.children.above.items) (left_above s items) (sizes_at s c.in-Some-pop.outer.children)
    (ap (left_above s) c.in-Some-pop.ensures.items ∙ left_above-more s items c.in-Some-pop.outer)

-- ---- a leaf is copied

pub clone_leaf-requires : goal.clone_leaf-requires
clone_leaf-requires g c =
    let (tree, full) = c.requires.tree in
    (search rules, child_leaf c.children.ends (c.children.invariant.copying tree full) c.in-Some.ensures.steps c.in-Leaf.ensures.name)

pub add_copy-requires-in-Leaf : goal.add_copy-requires-in-Leaf
add_copy-requires-in-Leaf g c =
    let (tree, full) = c.requires.tree in
    let next = next_of c.children.ends (c.children.invariant.copying tree full) c.in-Some.ensures.steps in
    let cloned = subst (λ n. IsCloned {E = AllocError}
    (IsPairClone g.K.Clone.is_clone g.V.Clone.is_clone) c.args.store.now n c.children.into c.clone_leaf.new.into
    (Ok c.in-Ok-clone_leaf.done)) c.in-Leaf.ensures.name c.in-Ok-clone_leaf.ensures in
    let copied = cloned.copied next.below next.is_full in
    let into = c.clone_leaf.new.into in
    let done = c.in-Ok-clone_leaf.done in
    (search rules, (next.last_there into done copied, (next.first_there into done copied, next.place into done copied)))

pub children-preserved-in-Leaf : goal.children-preserved-in-Leaf
children-preserved-in-Leaf g c =
    let cloned = subst (λ n. IsCloned {E = AllocError}
    (IsPairClone g.K.Clone.is_clone g.V.Clone.is_clone) c.args.store.now n c.children.into c.clone_leaf.new.into
    (Ok c.in-Ok-clone_leaf.done)) c.in-Leaf.ensures.name c.in-Ok-clone_leaf.ensures in
    record {
      copying = λ tree full.
          let is = c.children.invariant.copying tree full in
          let next = next_of c.children.ends is c.in-Some.ensures.steps in
          child_copied c.children.ends is c.in-Some.ensures.steps
          (cloned.copied next.below next.is_full) c.add_copy-in-Leaf.ensures.first c.add_copy-in-Leaf.ensures.last
          c.add_copy-in-Leaf.ensures.leaves
          c.add_copy-in-Leaf.ensures.inners c.add_copy-in-Leaf.ensures.promise;
      lessened = rw c.add_copy-in-Leaf.ensures.promise
          (lessened_twice c.args.into.now.promise c.children.into.promise c.clone_leaf.new.into.promise
          c.children.invariant.lessened cloned.lessened);
    }

pub children-smaller-in-Leaf : goal.children-smaller-in-Leaf
children-smaller-in-Leaf g c =
    let (tree, full) = c.requires.tree in
    let s = c.args.store.now in
    let e = ap (sizes_at s) c.in-Some.ensures.steps in
    let some = child_counts c.children.ends (c.children.invariant.copying tree full) c.in-Some.ensures.steps in
    let falls = falls_by (size_at s c.in-Some.child) (sizes_at s c.next.new.self) 0 (left_above s c.children.above.items) 0 0 some in
    rw e falls

-- ---- an inner node is begun

pub begin-requires-in-Inner : goal.begin-requires-in-Inner
begin-requires-in-Inner g c =
    let (tree, full) = c.requires.tree in (
      search rules,
      child_inner c.children.ends
          (c.children.invariant.copying tree full) c.in-Some.ensures.steps c.in-Inner.ensures.proper c.in-Inner.ensures.name,
    )

pub children-preserved : goal.children-preserved
children-preserved g c = record {
  copying = λ tree full.
      let s = c.args.store.now in
      let is = c.children.invariant.copying tree full in
      let (node, there) =
      some_of (map.get s.inners c.in-Inner.inner)
      (child_inner c.children.ends is c.in-Some.ensures.steps c.in-Inner.ensures.proper c.in-Inner.ensures.name) in
      let begun = subst (λ o. IfSome o (λ node. IsBegun c.children.into c.begin-in-Inner.new.into c.in-Inner.inner node
      c.in-Ok-begin.begun.0 c.in-Ok-begin.begun.1)) there c.in-Ok-begin.ensures.begun in
      let f : Above = record { copy = c.children.copy; byte = c.in-Some.byte; children = c.next.new.self; ends = c.children.ends } in
      let pushed = c.push_reserved.ensures.items ∙ ap (λ l. l ++ f ∷ []) c.reserve.ensures.items in
      subst (λ l. IsCopying (IsPairClone g.K.Clone.is_clone g.V.Clone.is_clone)
      s c.args.into.now tree l c.begin-in-Inner.new.into c.in-Ok-begin.begun.0 c.in-Ok-begin.begun.1 None None)
      (sym (reverse-last c.push_reserved.new.self.items c.children.above.items f pushed))
      (child_begun c.children.ends is c.in-Some.ensures.steps c.in-Inner.ensures.proper c.in-Inner.ensures.name there begun);
  lessened = lessened_twice c.args.into.now.promise c.children.into.promise c.begin-in-Inner.new.into.promise c.children.invariant.lessened
      c.in-Ok-begin.ensures.lessened;
}

pub children-smaller : goal.children-smaller
children-smaller g c =
    let (tree, full) = c.requires.tree in
    let s = c.args.store.now in
    let is = c.children.invariant.copying tree full in
    let (node, there) =
    some_of (map.get s.inners c.in-Inner.inner)
    (child_inner c.children.ends is c.in-Some.ensures.steps c.in-Inner.ensures.proper c.in-Inner.ensures.name) in
    let begun = subst (λ o. IfSome o (λ node. IsBegun c.children.into c.begin-in-Inner.new.into c.in-Inner.inner node c.in-Ok-begin.begun.0
    c.in-Ok-begin.begun.1)) there c.in-Ok-begin.ensures.begun in
    let f : Above = record { copy = c.children.copy; byte = c.in-Some.byte; children = c.next.new.self; ends = c.children.ends } in
    let pushed = c.push_reserved.ensures.items ∙ ap (λ l. l ++ f ∷ []) c.reserve.ensures.items in
    let less = begun_less c.children.ends is c.in-Some.ensures.steps c.in-Inner.ensures.proper c.in-Inner.ensures.name there begun in
    let e = ap (sizes_at s) c.in-Some.ensures.steps in
    let falls = falls_in (size_at s c.in-Some.child) (sizes_at s c.next.new.self) (sizes_at s c.in-Ok-begin.begun.1)
    (left_above s c.children.above.items) (left_above s c.push_reserved.new.self.items) 0
    less (ap (left_above s) pushed ∙ left_above-more s c.children.above.items f) in
    rw e falls

-- ---- a clone fails

pub back-init : goal.back-init
back-init g c = elim c.match-split.branch [
  | in-Leaf+in_default-clone_leaf w ↦ record {
    refused = λ tree full. refused_here (c.children.invariant.copying tree full) (ap (λ v. v.items) w.above-is)
        (ap (λ z. z.leaves) w.into-is ∙ w.in_default-clone_leaf.ensures.leaves)
        (ap (λ z. z.inners) w.into-is ∙ w.in_default-clone_leaf.ensures.inners);
    lessened = rw w.into-is (lessened_twice c.args.into.now.promise c.children.into.promise w.clone_leaf.new.into.promise
        c.children.invariant.lessened w.in_default-clone_leaf.ensures.lessened);
  }
  | in-Inner+then-is_err w ↦ record {
    refused = λ tree full. refused_here (c.children.invariant.copying tree full) (ap (λ v. v.items) w.above-is ∙ w.reserve.ensures.items)
        (ap (λ z. z.leaves) w.into-is) (ap (λ z. z.inners) w.into-is);
    lessened = rw w.into-is c.children.invariant.lessened;
  }
  | in-Inner+else-is_err+in_default-begin w ↦ record {
    refused = λ tree full. refused_here (c.children.invariant.copying tree full) (ap (λ v. v.items) w.above-is ∙ w.reserve.ensures.items)
        (ap (λ z. z.leaves) (w.into-is ∙ w.in_default-begin.ensures.refused))
        (ap (λ z. z.inners) (w.into-is ∙ w.in_default-begin.ensures.refused));
    lessened = rw w.into-is (lessened_twice c.args.into.now.promise c.children.into.promise w.begin-in-Inner.new.into.promise
        c.children.invariant.lessened w.in_default-begin.ensures.lessened);
  }
]

pub free_nodes-requires : goal.free_nodes-requires
free_nodes-requires g c =
    let (tree, full) = c.requires.tree in
    (search rules, copy_can_go (c.back.invariant.refused tree full) c.to_opaque-in-back.ensures)

pub returns-in_default-pop-2 : goal.returns-in_default-pop-2
returns-in_default-pop-2 g c =
    let (tree, full) = c.requires.tree in
    let is = c.back.invariant.refused tree full in
    let same = copy_undone is c.to_opaque-in-back.ensures {freed = c.free_nodes.new.store} c.free_nodes.ensures.freed c.free_nodes.ensures.improper in
    let (leaves, inners) = all_undone is c.to_opaque-in-back.ensures
    (reverse-empty c.back.above.items c.back.above.len c.back.above.ok.0 c.in_default-pop-2.ensures.cases.0) c.free_nodes.new.store same in
    record { copied = λ tree full. tt; leaves = leaves; inners = inners; lessened = rw c.free_nodes.ensures.promise c.back.invariant.lessened }

pub back-preserved : goal.back-preserved
back-preserved g c = record {
  refused = λ tree full.
      let is = c.back.invariant.refused tree full in
      outer_refused is c.to_opaque-in-back.ensures c.in-Some-pop-2.outer (reverse c.pop-in-back.new.self.items)
      (reverse-last c.back.above.items c.pop-in-back.new.self.items c.in-Some-pop-2.outer c.in-Some-pop-2.ensures.items) c.free_nodes.new.store
      (copy_undone is c.to_opaque-in-back.ensures {freed = c.free_nodes.new.store} c.free_nodes.ensures.freed c.free_nodes.ensures.improper);
  lessened = rw c.free_nodes.ensures.promise c.back.invariant.lessened;
}
