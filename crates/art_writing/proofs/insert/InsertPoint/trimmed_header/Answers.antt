use Rattle.std.proofs.Common.{rules, sym, arith}
use Rattle.art_writing.proofs.Trims.{inner_met, trim_inside, trim_whole, trim_stored, least_met, trim_given, trim_read}
use Rattle.art_writing.proofs.insert.InsertPoint.trimmed_header.Goals as goal

pub inner_at-node-requires : goal.inner_at-node-requires
inner_at-node-requires g c =
    let (key, (pairs, layout, by, at)) = c.requires.answers in
    (search rules, (search rules, inner_met by at c.requires.point))

pub overflow_add-count : goal.overflow_add-count
overflow_add-count g c =
    let (key, (pairs, layout, by, at)) = c.requires.answers in
    let inside = trim_inside by at c.requires.point (sym c.inner_at-node.ensures.view) c.header-header.ensures in
    omega (arith, c.header-header.type_inv)

pub ltrim_by-requires : goal.ltrim_by-requires
ltrim_by-requires g c =
    let (key, (pairs, layout, by, at)) = c.requires.answers in
    (search rules, trim_whole by at c.requires.point (sym c.inner_at-node.ensures.view) c.header-header.ensures c.in_default.is)

pub returns-in_default-clause-header : goal.returns-in_default-clause-header
returns-in_default-clause-header g c key pairs layout by at =
    trim_stored by at c.requires.point (sym c.inner_at-node.ensures.view)
    c.header-header.ensures c.in_default.is c.ltrim_by.ensures.len c.ltrim_by.ensures.stored

pub leaf_at-leaf-requires : goal.leaf_at-leaf-requires
leaf_at-leaf-requires g c =
    let (key, (pairs, layout, by, at)) = c.requires.answers in
    (search rules, least_met by at c.requires.point (sym c.inner_at-node.ensures.view) c.header-header.ensures c.in-Some.is)

pub ltrim_by_with_leaf-requires : goal.ltrim_by_with_leaf-requires
ltrim_by_with_leaf-requires g c =
    let (key, (pairs, layout, by, at)) = c.requires.answers in (
      search rules,
      trim_given by at c.requires.point (sym c.inner_at-node.ensures.view) c.header-header.ensures c.in-Some.is
          (sym c.leaf_at-leaf.ensures) c.as_bytes.ensures,
    )

pub returns-clause-header : goal.returns-clause-header
returns-clause-header g c key pairs layout by at =
    trim_read by at c.requires.point (sym c.inner_at-node.ensures.view) c.header-header.ensures c.in-Some.is (sym c.leaf_at-leaf.ensures) c.as_bytes.ensures
    c.ltrim_by_with_leaf.ensures.len c.ltrim_by_with_leaf.ensures.stored
