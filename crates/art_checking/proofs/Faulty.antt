-- Errors that are passed on, and those of a canonical root.
use Rattle.std.proofs.Common.{◌≡◌, ◌≢◌, ◌<◌, inl, inr, ℕ, List, length, sym, subst, refl, Result, Ok, Err, IfErr, Some, IsErrAnd}
use Rattle.std.proofs.lemmas.Result.{IfErr-weaker}
use Rattle.std.specs.FinMap as map
use Rattle.art_model.specs.Prelude.{Inner, kind_least, inner_name, Nodes, InnerPtr, NodeType, Leaf, OpaqueNodePtr, IsTrueOf, Reaches, wrong_children_count, IsCanonicalRoot, header_at}
use Rattle.art_model.specs.Faults.{Fault, out_of_memory}
use Rattle.art_model.proofs.stores.Canonical.{laid_out}
use Rattle.art_model.proofs.stores.Faultless.{no_fault}
use Rattle.art_checking.specs.Checked.{IsTrueAt, Says}
use Rattle.art_checking.specs.Checks.{fault_of}
use Rattle.art_checking.proofs.LeastDescents.{inner_at}
use Rattle.art_checking.specs.declared.well_formed.fault.MalformedTreeError.{MalformedTreeError}
use Rattle.art_checking.specs.declared.well_formed.fault.MalformedTreeError.TheVariants.{LoopFound, WrongChildrenCount, PrefixMismatch}
use Rattle.art_checking.specs.declared.well_formed.fault.MalformedTreeError.TheVariants.{EmptyTreeWithLen, LeafSiblingWrongOrder}
use Rattle.art_checking.specs.declared.well_formed.fault.MalformedTreeError.TheVariants.{WrongSiblingLinks, DeadName, UnreadablePrefix}
use Rattle.art_checking.specs.declared.well_formed.fault.MalformedTreeError.TheVariants.{StoredPrefixMismatch, OutOfMemory}

-- what holds of an error holds of it after `?`
pub passed_on : {T E : Type 0} (r : Result T E) (source : E) (Q : E → Type 0) → IsErrAnd r (λ e. e ≡ source) → Q source → IfErr r Q
passed_on (Ok x) source Q same q = tt
passed_on (Err e) source Q same q = subst Q (sym same) q

-- only one error is out of memory
memory_alone : (error : MalformedTreeError) → fault_of error ≡ out_of_memory → error ≡ OutOfMemory
memory_alone (LoopFound node_ptr first_observed later_observed) is = absurd cc
memory_alone (WrongChildrenCount key_prefix inner_node_type num_children) is = absurd cc
memory_alone (PrefixMismatch expected_prefix entire_key) is = absurd cc
memory_alone EmptyTreeWithLen is = absurd cc
memory_alone (LeafSiblingWrongOrder sibling_key leaf_key expected_order actual_order) is = absurd cc
memory_alone (WrongSiblingLinks leaf_key expected_previous expected_next actual_previous actual_next) is = absurd cc
memory_alone (DeadName key_prefix name) is = absurd cc
memory_alone (UnreadablePrefix key_prefix name) is = absurd cc
memory_alone (StoredPrefixMismatch key_prefix stored actual) is = absurd cc
memory_alone OutOfMemory is = refl

-- the only error that a canonical root can have is out of memory
pub canonical_error : {K V : Type 0} {bytes : K × V → List ℕ} {P : ℕ} {s : Nodes K V} {root : OpaqueNodePtr} (error : MalformedTreeError) →
    IsCanonicalRoot bytes P s root → IsTrueOf bytes P s root (fault_of error) → error ≡ OutOfMemory
canonical_error {bytes = bytes} {P = P} {s = s} {root = root} error (pairs, layout, by) is =
    memory_alone error (no_fault bytes P s root pairs layout (laid_out by) (fault_of error) is)

-- what an error reports is true, or the allocation for it failed
pub said : {K V : Type 0} (bytes : K × V → List ℕ) (P : ℕ) (s : Nodes K V) (root : OpaqueNodePtr) {fault : Fault}
    (error : MalformedTreeError) → Says fault error →
    IsTrueOf bytes P s root fault → IsTrueOf bytes P s root (fault_of error)
said bytes P s root error (inl e) true = subst (IsTrueOf bytes P s root) (sym e) true
said bytes P s root error (inr e) true = subst (IsTrueOf bytes P s root) (sym e) tt

module _ {K V T : Type 0} (bytes : K × V → List ℕ) (P : ℕ) (s : Nodes K V) (r : Result T MalformedTreeError) where
  -- a node has fewer children than its kind may have
  pub too_few_at : {front place : List ℕ} {kind : NodeType} (p : InnerPtr) (node : Inner) → p.kind ≢ Leaf → map.get s.inners p ≡ Some node →
      front ≡ place → kind ≡ p.kind →
      IfErr r (λ error. Says (wrong_children_count front kind (length node.children)) error × (length node.children < kind_least kind)) →
      IfErr r (IsTrueAt bytes P s place (inner_name p))
  too_few_at {front} {place} {kind} p node proper there at is =
      IfErr-weaker r (λ error. Says (wrong_children_count front kind (length node.children)) error × (length node.children < kind_least kind))
      (IsTrueAt bytes P s place (inner_name p))
      (λ error few root reach. said bytes P s root error few.0 (
        inner_name p,
        header_at p.kind node,
        node.children,
        (subst (λ ps. Reaches bytes P s root ps (inner_name p)) (sym at) reach, inner_at s p node proper there),
        sym is,
        refl,
        few.1,
      ))
