use Rattle.std.proofs.Common.{◌≡◌, ℕ, Some, None, ap, refl, sym, ◌∙◌}
use Rattle.art_model.specs.Prelude.{InnerPtr}
use Rattle.art_reading.specs.declared.path.TreePath.{TreePath}
use Rattle.art_reading.specs.declared.path.TreePath.TheVariants.{Root, ChildOfRoot, Normal}
use Rattle.art_reading.specs.PathSteps.{last_step, step_down}
use Rattle.art_reading.proofs.path.TreePath.step_down.Goals as goal

-- one step down from the root, and from a node below a parent
from_root : (path : TreePath) (node : InnerPtr) (byte : ℕ) → last_step path ≡ None → ChildOfRoot node byte ≡ step_down path node byte
from_root Root node byte none = refl
from_root (ChildOfRoot parent b) node byte none = absurd cc
from_root (Normal parent b grandparent c) node byte none = absurd cc

from_parent : (path : TreePath) (node : InnerPtr) (byte : ℕ) (above : InnerPtr) (b : ℕ) → last_step path ≡ Some (above, b) →
    Normal node byte above b ≡ step_down path node byte
from_parent Root node byte above b some = absurd cc
from_parent (ChildOfRoot parent d) node byte above b some =
    let e : ◌≡◌ {A = InnerPtr × ℕ} (parent, d) (above, b) = cc in ap (λ z. Normal node byte z.0 z.1) (sym e)
from_parent (Normal parent d grandparent c) node byte above b some =
    let e : ◌≡◌ {A = InnerPtr × ℕ} (parent, d) (above, b) = cc in ap (λ z. Normal node byte z.0 z.1) (sym e)

pub returns-in-None : goal.returns-in-None
returns-in-None c = from_root c.args.self c.args.node c.args.byte (sym c.last_step.ensures ∙ c.in-None.is)

pub returns-in-Some : goal.returns-in-Some
returns-in-Some c = from_parent c.args.self c.args.node c.args.byte c.in-Some.grandparent c.in-Some.parent_key_byte (sym c.last_step.ensures ∙ c.in-Some.is)
