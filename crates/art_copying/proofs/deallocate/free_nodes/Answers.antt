use Rattle.std.proofs.Common.{◌∙◌, sym, refl, ap, rules, arith}
use Rattle.std.specs.FinMap as map
use Rattle.art_model.specs.Prelude.{without_child, change, first_of, as_inner}
use Rattle.art_nodes.proofs.StoreChanges.{inner_changed_elsewhere, inner_gone_elsewhere}
use Rattle.art_copying.proofs.OneTree.{all_is_left, fewer_left, is_end, last_cut, less_is_left, node_there, none_is_left, only_goes, root_hangs, some_children, still_left}
use Rattle.art_copying.proofs.deallocate.free_nodes.Goals as goal

pub left-init : goal.left-init
left-init g c =
    record {
      left = λ shape can. all_is_left shape can;
      promise = refl;
      improper = λ name leaf. refl;
      total = omega arith;
      few = λ more. absurd (omega arith);
    }

-- ---- an end is left

pub free_end-requires : goal.free_end-requires
free_end-requires g c =
    let (shape, can) = c.requires in
    let is = c.left.invariant.left shape can in
    (search rules, (is.left, is_end c.left.store is.left is.can.layout (sym (ap first_of c.in_default.ensures.none)), is.can))

pub returns-in_default-clause-freed : goal.returns-in_default-clause-freed
returns-in_default-clause-freed g c shape can =
    let is = c.left.invariant.left shape can in
    none_is_left is (c.free_end.ensures.freed is.left (is_end c.left.store is.left is.can.layout (sym (ap first_of c.in_default.ensures.none))) is.can)

pub returns-in_default-clause-count : goal.returns-in_default-clause-count
returns-in_default-clause-count g c shape can =
    let is = c.left.invariant.left shape can in
    let counted = is.counted in
    let freed = c.free_end.ensures.count is.left (is_end c.left.store is.left is.can.layout (sym (ap first_of c.in_default.ensures.none))) is.can in
    omega (arith, counted, freed)

-- ---- an only child is left

pub free_node-requires : goal.free_node-requires
free_node-requires g c =
    let (others, last, only) = c.in-Some.ensures.last in (
      search rules,
      rw c.inner_of-upper.ensures
          (node_there c.left.store c.left.left (some_children c.left.store c.left.left others (c.in-Some.last.byte, c.in-Some.last.name) last)),
    )

pub left-smaller-then-last : goal.left-smaller-then-last
left-smaller-then-last g c =
    let (shape, can) = c.requires in
    let (others, last, only) = c.in-Some.ensures.last in
    let is = c.left.invariant.left shape can in
    fewer_left is.can (only_goes {u = c.free_node.new.store} c.in-Some.last.byte others is.left is.can last (only.0 c.if-last.true)
    (c.free_node.ensures.inners ∙ ap (λ p. map.remove c.left.store.inners p) c.inner_of-upper.ensures) c.free_node.ensures.leaves)

pub left-preserved-then-last : goal.left-preserved-then-last
left-preserved-then-last g c =
    let (others, last, only) = c.in-Some.ensures.last in
    let removed = c.free_node.ensures.inners ∙ ap (λ p. map.remove c.left.store.inners p) c.inner_of-upper.ensures in
    record {
      left = λ shape can.
          let is = c.left.invariant.left shape can in
          still_left is (only_goes c.in-Some.last.byte others is.left is.can last (only.0 c.if-last.true) removed c.free_node.ensures.leaves);
      promise = c.free_node.ensures.promise ∙ c.left.invariant.promise;
      improper = λ name leaf.
          let has = some_children c.left.store c.left.left others (c.in-Some.last.byte, c.in-Some.last.name) last in
          ap (λ m. map.get m name) removed
          ∙ inner_gone_elsewhere c.left.store.inners (as_inner c.left.left) name (λ e. has.off (sym (ap (λ z. z.kind) e) ∙ leaf))
          ∙ c.left.invariant.improper name leaf;
      total = let a = c.left.invariant.total in let e = ap map.len c.free_node.ensures.leaves in omega (arith, a, e);
      few = c.left.invariant.few;
    }

-- ---- the root is attached below its last child

pub remove_child-requires : goal.remove_child-requires
remove_child-requires g c =
    let (others, last, only) = c.in-Some.ensures.last in (
      search rules,
      rw c.inner_of-upper.ensures
          (node_there c.left.store c.left.left (some_children c.left.store c.left.left others (c.in-Some.last.byte, c.in-Some.last.name) last)),
    )

pub hang-freed-requires : goal.hang-freed-requires
hang-freed-requires g c =
    let (shape, can) = c.requires in
    let (others, last, only) = c.in-Some.ensures.last in
    let is = c.left.invariant.left shape can in
    let cut = last_cut c.in-Some.last.byte others is.left is.can c.in-Some.ensures.rising last
    (c.remove_child.ensures.inners ∙ ap (λ p. change c.left.store.inners p (without_child c.in-Some.last.byte)) c.inner_of-upper.ensures)
    c.remove_child.ensures.leaves in
    (search rules, (cut.upper, cut.cut, cut.can))

pub left-smaller : goal.left-smaller
left-smaller g c =
    let (shape, can) = c.requires in
    let (others, last, only) = c.in-Some.ensures.last in
    let is = c.left.invariant.left shape can in
    let cut = last_cut c.in-Some.last.byte others is.left is.can c.in-Some.ensures.rising last
    (c.remove_child.ensures.inners ∙ ap (λ p. change c.left.store.inners p (without_child c.in-Some.last.byte)) c.inner_of-upper.ensures)
    c.remove_child.ensures.leaves in
    fewer_left is.can (root_hangs cut (c.hang-freed.ensures.joined cut.upper cut.cut cut.can))

pub left-preserved : goal.left-preserved
left-preserved g c =
    let (others, last, only) = c.in-Some.ensures.last in
    let removed = c.remove_child.ensures.inners ∙ ap (λ p. change c.left.store.inners p (without_child c.in-Some.last.byte)) c.inner_of-upper.ensures in
    record {
      left = λ shape can.
          let is = c.left.invariant.left shape can in
          let cut = last_cut c.in-Some.last.byte others is.left is.can c.in-Some.ensures.rising last removed c.remove_child.ensures.leaves in
          less_is_left is (root_hangs cut (c.hang-freed.ensures.joined cut.upper cut.cut cut.can));
      promise = c.hang-freed.ensures.promise ∙ c.remove_child.ensures.promise ∙ c.left.invariant.promise;
      improper = λ name leaf.
          let has = some_children c.left.store c.left.left others (c.in-Some.last.byte, c.in-Some.last.name) last in
          c.hang-freed.ensures.improper name leaf
          ∙ ap (λ m. map.get m name) removed
          ∙ inner_changed_elsewhere c.left.store.inners (as_inner c.left.left) name (without_child c.in-Some.last.byte)
          (λ e. has.off (sym (ap (λ z. z.kind) e) ∙ leaf))
          ∙ c.left.invariant.improper name leaf;
      total =
          let a = c.left.invariant.total in
          let b = c.hang-freed.ensures.total in
          let e = ap map.len c.remove_child.ensures.leaves in
          omega (arith, a, b, e);
      few = λ more.
          let a = c.left.invariant.total in
          let b = c.hang-freed.ensures.total in
          let e = ap map.len c.remove_child.ensures.leaves in
          grind (arith, a, b, e, c.left.invariant.few, c.hang-freed.ensures.few);
    }
