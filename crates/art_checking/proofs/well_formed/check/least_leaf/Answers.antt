use Rattle.std.proofs.Common.{◌≡◌, ◌⊎◌, inl, inr, Bool, true, false, cond, not, [], refl, sym, ◌∙◌, ap, rules, Bor, Option, Some, None, option_map, option_copied, is_eq}
use Rattle.art_model.specs.Prelude.{LeafPtr, ref_view, inner_name, InnerPtr, inner_node, of_key, node_at, header_at}
use Rattle.std.proofs.lemmas.Bool.{false≢true}
use Rattle.std.specs.List.{list_any}
use Rattle.std.specs.BTreeMap.{is_at}
use Rattle.std.specs.BTreeSet.{contains}
use Rattle.std.specs.FinMap as map
use Rattle.art_parts.specs.contracts.names.InnerPtrOrd.TheImpl as derived
use Rattle.art_model.specs.Trails.{HasLeast}
use Rattle.art_checking.proofs.LeastDescents.{inner_at, down_more, ends_at_leaf, ends_nowhere, ends_again, ends_childless}
use Rattle.art_checking.proofs.Meetings.{same_inner}
use Rattle.art_checking.proofs.Untried.{untried_less, key_of_inner, still, was_new}
use Rattle.art_checking.proofs.well_formed.check.least_leaf.Goals as goal

-- what is in a set with one more is that or was in it
either : (same old : Bool) (q : InnerPtr) {p : InnerPtr} → (same ≡ true → p ≡ q) → cond same true old ≡ true → (q ≡ p) ⊎ (old ≡ true)
either true old q is e = inl (sym (is refl))
either false old q is e = inr e

-- what was not added was in it before
was_old : (b added : Bool) → added ≡ not b → added ≡ false → b ≡ true
was_old true added e h = refl
was_old false added e h = absurd (false≢true (sym h ∙ e))

pub down-smaller : goal.down-smaller
down-smaller g c =
    let updates = c.in_ok-insert.ensures.updates in
    untried_less (λ p. contains derived.cmp-value.it c.down.passed p) (λ p. contains derived.cmp-value.it c.insert.new.self p)
    (λ p e. updates.0 p ∙ still (is_at (derived.cmp-value.it c.in-Inner.inner) p) (contains derived.cmp-value.it c.down.passed p) e)
    (map.keys c.args.store.now.inners) c.in-Inner.inner
    (key_of_inner c.args.store.now.inners c.in-Inner.inner (ref_view c.in-Some.node) (sym c.in-Some.ensures.view))
    (was_new (contains derived.cmp-value.it c.down.passed c.in-Inner.inner) c.in_ok-insert.field-0 c.in_ok-insert.ensures.added c.if-not-branch.false) updates.1

copied : {X Y : Type 0} (y : Y) (o : Option (Bor X)) → option_map {T = Bor X} {U = Y} (λ _. y) o ≡ option_map {T = X} {U = Y} (λ _. y) (option_copied o)
copied y None = refl
copied y (Some x) = refl

pub down-init : goal.down-init
down-init g c = record {
  names = [];
  descent = tt;
  ends = refl;
  passes = λ p e. absurd (false≢true (sym (ap (list_any (λ k. is_at (derived.cmp-value.it p) k)) c.new-passed.ensures.empty) ∙ e));
}

pub down-preserved : goal.down-preserved
down-preserved g c =
    let there : map.get c.args.store.now.inners c.in-Inner.inner ≡ Some (ref_view c.in-Some.node) = sym c.in-Some.ensures.view in
    let slots = sym c.iter.ensures.children ∙ c.in-Some-next.ensures.steps in
    let has : HasLeast (node_at c.args.store.now) (inner_name c.in-Inner.inner) c.in-Some-next.child = (
      header_at c.in-Inner.inner.kind (ref_view c.in-Some.node),
      c.in-Some-next.field-0-0,
      c.next.new.self,
      inner_at c.args.store.now
          c.in-Inner.inner (ref_view c.in-Some.node) c.in-Inner.ensures.proper there
          ∙ ap (λ l. Some (inner_node (header_at c.in-Inner.inner.kind (ref_view c.in-Some.node)) l)) slots,
    ) in
    down_more c.in-Inner.inner c.in-Some-next.child c.down.invariant c.in-Inner.ensures.name has
    (λ q e. either (is_eq (derived.cmp-value.it c.in-Inner.inner q)) (contains derived.cmp-value.it c.down.passed q) q
    (same_inner c.in-Inner.inner q) (sym (c.in_ok-insert.ensures.updates.0 q) ∙ e))

pub returns-in-Leaf : goal.returns-in-Leaf
returns-in-Leaf g c =
    let mapped : c.map.result ≡ option_map {U = LeafPtr} (λ _. c.in-Leaf.leaf) c.leaf.result = search rules in
    ends_at_leaf (of_key g.K.AsBytes.bytes) g.row.P c.args.store.now c.down.invariant c.in-Leaf.leaf c.map.result (option_copied c.leaf.result)
    c.in-Leaf.ensures.name (sym c.leaf.ensures) (mapped ∙ copied c.in-Leaf.leaf c.leaf.result)

pub returns-in_default : goal.returns-in_default
returns-in_default g c =
    ends_nowhere (of_key g.K.AsBytes.bytes) g.row.P c.args.store.now c.down.invariant c.in-Inner.inner c.in-Inner.ensures.proper
    c.in-Inner.ensures.name (sym c.in_default.ensures.view)

pub returns-then-not-branch : goal.returns-then-not-branch
returns-then-not-branch g c =
    ends_again (of_key g.K.AsBytes.bytes) g.row.P c.args.store.now c.down.invariant c.in-Inner.inner c.in-Inner.ensures.proper
    c.in-Inner.ensures.name
    (was_old (contains derived.cmp-value.it c.down.passed c.in-Inner.inner) c.in_ok-insert.field-0 c.in_ok-insert.ensures.added c.if-not-branch.true)

pub returns-in_default-next : goal.returns-in_default-next
returns-in_default-next g c =
    ends_childless (of_key g.K.AsBytes.bytes) g.row.P c.args.store.now c.down.invariant c.in-Inner.inner c.in-Inner.ensures.proper
    c.in-Inner.ensures.name (ref_view c.in-Some.node) (sym c.in-Some.ensures.view) (sym c.iter.ensures.children ∙ c.in_default-next.ensures.steps.0)
