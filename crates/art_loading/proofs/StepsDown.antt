-- steps down a path, and where they are cut
use Rattle.std.proofs.Common.{◌≡◌, ℕ, ◌<◌, List, [], ◌∷◌, ◌++◌, length, refl, ap, sym, ◌∙◌, arith, subst, append_assoc, length-append, ◌⊎◌, inl, inr}
use Rattle.std.specs.List.{AllByRecursion as Each}
use Rattle.std.proofs.lemmas.List.{same_from_push}
use Rattle.art_loading.specs.declared.edge.Step.{Step}
use Rattle.art_loading.specs.EdgeSteps.{path_by, step_of, steps_of}
use Rattle.art_model.specs.Prelude.{Frame, depth_of, as_inner, OpaqueNodePtr}
use Rattle.art_model.proofs.lists.Lists.{Each-left, Each-right}
use Rattle.art_reading.specs.PathSteps.{path_of, step_down}
use Rattle.art_reading.specs.declared.path.TreePath.{TreePath}
use Rattle.art_reading.specs.declared.path.TreePath.TheVariants.{Root, ChildOfRoot, Normal}

-- the path after one more step
pub path_by-push : (path : TreePath) (steps : List Step) (step : Step) → path_by path (steps ++ step ∷ []) ≡ step_down (path_by path steps) step.node step.byte
path_by-push path [] step = refl
path_by-push path (other ∷ steps) step = path_by-push (step_down path other.node other.byte) steps step

pub path_by-steps : {A : Type 0} (fs : List (Frame OpaqueNodePtr A)) → path_by Root (steps_of fs) ≡ path_of fs
path_by-steps [] = refl
path_by-steps (f ∷ fs) = path_by-push Root (steps_of fs) (step_of f fs) ∙ ap (λ path. step_down path (as_inner f.mark) f.byte) (path_by-steps fs)

-- the last two steps of a path are all that it knows
pub path_by-two : (path : TreePath) (steps : List Step) (upper last : Step) →
    path_by path ((steps ++ upper ∷ []) ++ last ∷ []) ≡ Normal last.node last.byte upper.node upper.byte
path_by-two path steps upper last =
    path_by-push path (steps ++ upper ∷ []) last ∙ ap (λ p. step_down p last.node last.byte) (path_by-push path steps upper) ∙ go (path_by path steps)
  where
    go : (p : TreePath) → step_down (step_down p upper.node upper.byte) last.node last.byte ≡ Normal last.node last.byte upper.node upper.byte
    go Root = refl
    go (ChildOfRoot parent b) = refl
    go (Normal parent b grandparent c) = refl

-- a list without elements, or with a last one
pub record HasPush {X : Type 0} (xs : List X) : Type 0 where
  pub front : List X
  pub last : X
  pub is : xs ≡ front ++ last ∷ []

pub push_view : {X : Type 0} (xs : List X) → (xs ≡ []) ⊎ HasPush xs
push_view [] = inl refl
push_view (x ∷ xs) = inr (go (push_view xs))
  where
    go : (xs ≡ []) ⊎ HasPush xs → HasPush (x ∷ xs)
    go (inl e) = record { front = []; last = x; is = ap (λ l. x ∷ l) e }
    go (inr h) = record { front = x ∷ h.front; last = h.last; is = ap (λ l. x ∷ l) h.is }

-- The path is cut at a step: above it is the outer path, and below it the inner one, whose first node is deeper than so many bytes.
pub record IsCut {A : Type 0} (shared : ℕ) (frames : List (Frame OpaqueNodePtr A)) (above : List Step) (step : Step) : Type 0 where
  pub inner : List (Frame OpaqueNodePtr A)
  pub frame : Frame OpaqueNodePtr A
  pub outer : List (Frame OpaqueNodePtr A)
  pub whole : frames ≡ inner ++ frame ∷ outer
  pub above_is : above ≡ steps_of outer
  pub step_is : step ≡ step_of frame outer
  pub beyond : (inner ≡ []) ⊎ (shared < depth_of (frame ∷ outer))

pub cut_at : {A : Type 0} (shared : ℕ) (frames : List (Frame OpaqueNodePtr A)) (above rest : List Step) (step : Step) →
    steps_of frames ≡ above ++ step ∷ rest → Each (λ other. shared < other.depth) rest → IsCut shared frames above step
cut_at shared [] above rest step is deep = let l = ap length is in absurd (omega (arith, simp length-append at l))
cut_at {A} shared (g ∷ gs) above rest step is deep = go (λ less one all. cut_at shared gs above less step one all) (push_view rest)
  where
    below : (up : IsCut shared gs above step) → shared < depth_of gs → (up.inner ≡ []) ⊎ (shared < depth_of (up.frame ∷ up.outer)) →
        shared < depth_of (up.frame ∷ up.outer)
    below up here (inl e) = subst (λ l. shared < depth_of l) (up.whole ∙ ap (λ l. l ++ up.frame ∷ up.outer) e) here
    below up here (inr more) = more

    go : ((less : List Step) → steps_of gs ≡ above ++ step ∷ less → Each (λ other. shared < other.depth) less → IsCut shared gs above step) →
        (rest ≡ []) ⊎ HasPush rest → IsCut shared (g ∷ gs) above step
    go ih (inl e) =
        let (one, two) = same_from_push (steps_of gs) above (step_of g gs) step (is ∙ ap (λ l. above ++ step ∷ l) e) in
        record { inner = []; frame = g; outer = gs; whole = refl; above_is = sym one; step_is = sym two; beyond = inl refl }
    go ih (inr h) =
        let (one, two) = same_from_push (steps_of gs) (above ++ step ∷ h.front) (step_of g gs) h.last
        (is ∙ ap (λ l. above ++ step ∷ l) h.is ∙ sym (append_assoc above (step ∷ h.front) (h.last ∷ []))) in
        let all = subst (Each (λ (other : Step). shared < other.depth)) h.is deep in
        let up = ih h.front one (Each-left (λ (other : Step). shared < other.depth) h.front (h.last ∷ []) all) in
        let last = (Each-right (λ (other : Step). shared < other.depth) h.front (h.last ∷ []) all).0 in
        record {
          inner = g ∷ up.inner;
          frame = up.frame;
          outer = up.outer;
          whole = ap (λ l. g ∷ l) up.whole;
          above_is = up.above_is;
          step_is = up.step_is;
          beyond = inr (below up (subst (λ (s : Step). shared < s.depth) (sym two) last) up.beyond);
        }

-- the steps without these, which are beyond so many bytes
pub record AreLeft (shared : ℕ) (steps left : List Step) : Type 0 where
  pub rest : List Step
  pub whole : steps ≡ left ++ rest
  pub beyond : Each (λ other. shared < other.depth) rest
