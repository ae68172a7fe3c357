use Rattle.std.proofs.Common.{◌≡◌, ◌∙◌, ap, ap₂, sym, ℕ, List, Ordering}
use Rattle.std.specs.List.{AllZip}
use Rattle.std.proofs.lemmas.List.Elements.{same_from_all_zip}
use Rattle.art_model.specs.Prelude.{NodeType, OpaqueNodePtr, Links, wrong_children_count}
use Rattle.art_model.specs.Faults.{dead_name, leaf_sibling_wrong_order, loop_found, prefix_mismatch, stored_prefix_mismatch, unreadable_prefix, wrong_sibling_links}
use Rattle.art_checking.specs.Checks.{fault_of}
use Rattle.art_checking.proofs.well_formed.fault.MalformedTreeErrorClone.clone.Goals as goal
use Rattle.art_checking.proofs.well_formed.fault.MalformedTreeErrorClone.clone.Goals.{}
use Rattle.art_checking.proofs.well_formed.fault.MalformedTreeErrorClone.clone.Goals.{in-LoopFound+in_ok-clone-in-LoopFound+in_ok-clone-in-LoopFound-2}
use Rattle.art_checking.proofs.well_formed.fault.MalformedTreeErrorClone.clone.Goals.{in-WrongChildrenCount+in_ok-clone-in-WrongChildrenCount}
use Rattle.art_checking.proofs.well_formed.fault.MalformedTreeErrorClone.clone.Goals.{in-PrefixMismatch+in_ok-clone-in-PrefixMismatch+in_ok-clone-in-PrefixMismatch-2}
use Rattle.art_checking.proofs.well_formed.fault.MalformedTreeErrorClone.clone.Goals.{in-EmptyTreeWithLen}
use Rattle.art_checking.proofs.well_formed.fault.MalformedTreeErrorClone.clone.Goals.{in-LeafSiblingWrongOrder+in_ok-clone-in-LeafSiblingWrongOrder+in_ok-clone-in-LeafSiblingWrongOrder-2}
use Rattle.art_checking.proofs.well_formed.fault.MalformedTreeErrorClone.clone.Goals.{in-WrongSiblingLinks+in_ok-clone-in-WrongSiblingLinks}
use Rattle.art_checking.proofs.well_formed.fault.MalformedTreeErrorClone.clone.Goals.{in-DeadName+in_ok-clone-in-DeadName}
use Rattle.art_checking.proofs.well_formed.fault.MalformedTreeErrorClone.clone.Goals.{in-UnreadablePrefix+in_ok-clone-in-UnreadablePrefix}
use Rattle.art_checking.proofs.well_formed.fault.MalformedTreeErrorClone.clone.Goals.{in-StoredPrefixMismatch+in_ok-clone-in-StoredPrefixMismatch+in_ok-clone-in-StoredPrefixMismatch-2+in_ok-clone-in-StoredPrefixMismatch-3}
use Rattle.art_checking.proofs.well_formed.fault.MalformedTreeErrorClone.clone.Goals.{in-OutOfMemory}

-- a copy has the same bytes
same_items : {xs ys : List ℕ} → AllZip (λ x y. y ≡ x) xs ys → ys ≡ xs
same_items {xs} {ys} all = same_from_all_zip (λ x y. y ≡ x) xs ys all (λ x y e. e)

-- ---- faults with the same bytes are the same
loop_same : {n : OpaqueNodePtr} {p q a b : List ℕ} → p ≡ q → a ≡ b → loop_found n p a ≡ loop_found n q b
loop_same {n} e f = ap₂ (loop_found n) e f

count_same : {p q : List ℕ} {kind : NodeType} {n : ℕ} → p ≡ q → wrong_children_count p kind n ≡ wrong_children_count q kind n
count_same {kind = kind} {n = n} e = ap (λ p. wrong_children_count p kind n) e

order_same : {p q a b : List ℕ} {x y : Ordering} → p ≡ q → a ≡ b → leaf_sibling_wrong_order p a x y ≡ leaf_sibling_wrong_order q b x y
order_same {x = x} {y = y} e f = ap₂ (λ p a. leaf_sibling_wrong_order p a x y) e f

links_same : {p q : List ℕ} {x y : Links OpaqueNodePtr} → p ≡ q → wrong_sibling_links p x y ≡ wrong_sibling_links q x y
links_same {x = x} {y = y} e = ap (λ p. wrong_sibling_links p x y) e

dead_same : {p q : List ℕ} {n : OpaqueNodePtr} → p ≡ q → dead_name p n ≡ dead_name q n
dead_same {n = n} e = ap (λ p. dead_name p n) e

unreadable_same : {p q : List ℕ} {n : OpaqueNodePtr} → p ≡ q → unreadable_prefix p n ≡ unreadable_prefix q n
unreadable_same {n = n} e = ap (λ p. unreadable_prefix p n) e

stored_same : {p q a b d h : List ℕ} → p ≡ q → a ≡ b → d ≡ h → stored_prefix_mismatch p a d ≡ stored_prefix_mismatch q b h
stored_same {p} {b = b} {h = h} e f i = ap₂ (stored_prefix_mismatch p) f i ∙ ap (λ q. stored_prefix_mismatch q b h) e

pub returns : goal.returns
returns c = record {
  cases = elim c.match-self.branch [
    | in-LoopFound+in_ok-clone-in-LoopFound+in_ok-clone-in-LoopFound-2 w ↦
        ap fault_of w.result-is ∙ loop_same w.in_ok-clone-in-LoopFound.ensures.cases w.in_ok-clone-in-LoopFound-2.ensures.cases ∙
        sym (ap fault_of w.in-LoopFound.is)
    | in-WrongChildrenCount+in_ok-clone-in-WrongChildrenCount w ↦
        ap fault_of w.result-is ∙ count_same w.in_ok-clone-in-WrongChildrenCount.ensures.cases ∙
        sym (ap fault_of w.in-WrongChildrenCount.is)
    | in-PrefixMismatch+in_ok-clone-in-PrefixMismatch+in_ok-clone-in-PrefixMismatch-2 w ↦
        ap fault_of w.result-is ∙ ap₂ prefix_mismatch w.in_ok-clone-in-PrefixMismatch.ensures.cases
        (same_items w.in_ok-clone-in-PrefixMismatch-2.ensures.cases.0) ∙
        sym (ap fault_of w.in-PrefixMismatch.is)
    | in-EmptyTreeWithLen w ↦ ap fault_of w.result-is ∙ sym (ap fault_of w.in-EmptyTreeWithLen.is)
    | in-LeafSiblingWrongOrder+in_ok-clone-in-LeafSiblingWrongOrder+in_ok-clone-in-LeafSiblingWrongOrder-2 w ↦
        ap fault_of w.result-is ∙ order_same (same_items w.in_ok-clone-in-LeafSiblingWrongOrder.ensures.cases.0)
        (same_items w.in_ok-clone-in-LeafSiblingWrongOrder-2.ensures.cases.0) ∙
        sym (ap fault_of w.in-LeafSiblingWrongOrder.is)
    | in-WrongSiblingLinks+in_ok-clone-in-WrongSiblingLinks w ↦
        ap fault_of w.result-is ∙ links_same (same_items w.in_ok-clone-in-WrongSiblingLinks.ensures.cases.0) ∙
        sym (ap fault_of w.in-WrongSiblingLinks.is)
    | in-DeadName+in_ok-clone-in-DeadName w ↦
        ap fault_of w.result-is ∙ dead_same w.in_ok-clone-in-DeadName.ensures.cases ∙
        sym (ap fault_of w.in-DeadName.is)
    | in-UnreadablePrefix+in_ok-clone-in-UnreadablePrefix w ↦
        ap fault_of w.result-is ∙ unreadable_same w.in_ok-clone-in-UnreadablePrefix.ensures.cases ∙
        sym (ap fault_of w.in-UnreadablePrefix.is)
    | in-StoredPrefixMismatch+in_ok-clone-in-StoredPrefixMismatch+in_ok-clone-in-StoredPrefixMismatch-2+in_ok-clone-in-StoredPrefixMismatch-3 w ↦
        ap fault_of w.result-is ∙
        stored_same w.in_ok-clone-in-StoredPrefixMismatch.ensures.cases
        (same_items w.in_ok-clone-in-StoredPrefixMismatch-2.ensures.cases.0) (same_items w.in_ok-clone-in-StoredPrefixMismatch-3.ensures.cases.0) ∙
        sym (ap fault_of w.in-StoredPrefixMismatch.is)
    | in-OutOfMemory w ↦ ap fault_of w.result-is ∙ sym (ap fault_of w.in-OutOfMemory.is)
  ];
}
