-- Paths that are written, a line each, and whether one was found.
use Rattle.std.proofs.Common.{◌≡◌, ◌≢◌, ℕ, Bool, true, false, is_some, List, [], ◌∷◌, ◌++◌, drop, flat_map, get_or, Option, Some, None, Result, Ok, Err, IfOk, option_copied, Bor, refl, ap, sym, ◌∙◌, arith, append_assoc, append-nil}
use Rattle.std.proofs.lemmas.Bool.{false≢true}
use Rattle.art_operations.specs.MapItems.{keys_of}
use Rattle.art_operations.specs.Pairs.{last_of}
use Rattle.text_lines.proofs.Spaces.{same_words}
use Rattle.text_programs.specs.Paths.{below, between, is_stored}
use Rattle.text_programs.specs.PathReplies.{FindsPath, finds, is_filled, path_line, path_lines}
use Rattle.text_programs.specs.Requests.{IsRequest, line_of}
use Rattle.text_programs.specs.declared.path_indexes.request.Request.{Request}
use Rattle.text_programs.specs.declared.path_indexes.request.Request.TheVariants.{Under, At, Between, First, Last, Count}

-- the lines of the keys of pairs
pub key_lines : {V : Type 0} (pairs : List (List ℕ × V)) → flat_map (λ x. path_line x.0) pairs ≡ path_lines (keys_of pairs)
key_lines [] = refl
key_lines (x ∷ xs) = ap (λ bs. path_line x.0 ++ bs) (key_lines xs)

-- ---- whether an iteration returned an item

-- Some items were returned, and whether there was one is this.
pub record AreFound {A : Type 0} (found : Bool) (items left : List A) : Type 0 where
  pub done : List A
  pub are : items ≡ done ++ left
  pub none : found ≡ false → done ≡ []
  pub some : found ≡ true → done ≢ []

module _ {A : Type 0} where
  pub none_found : (items left : List A) → left ≡ items → AreFound false items left
  none_found items left e = record { done = []; are = sym e; none = λ f. refl; some = λ f. absurd (false≢true f) }

  pub one_found : (items left others : List A) (x : A) (found : Bool) → AreFound found items left → left ≡ x ∷ others → AreFound true items others
  one_found items left others x found h e = record {
    done = h.done ++ x ∷ [];
    are = h.are ∙ ap (λ xs. h.done ++ xs) e ∙ sym (append_assoc h.done (x ∷ []) others);
    none = λ f. absurd (false≢true (sym f));
    some = λ f. filled h.done x;
  }
    where
      filled : (xs : List A) (x : A) → xs ++ x ∷ [] ≢ []
      filled [] x e = absurd cc
      filled (y ∷ ys) x e = absurd cc

-- where no pair is left
pub all_found : {V : Type 0} (pairs left : List (List ℕ × V)) (found : Bool) → AreFound found pairs left → left ≡ [] → found ≡ is_filled (keys_of pairs)
all_found pairs left found h e = go found pairs (h.are ∙ ap (λ xs. h.done ++ xs) e ∙ append-nil h.done) h.none h.some
  where
    go : (t : Bool) (ps : _) → ps ≡ h.done → (t ≡ false → h.done ≡ []) → (t ≡ true → h.done ≢ []) → t ≡ is_filled (keys_of ps)
    go true [] is none some = absurd (some refl (sym is))
    go true (p ∷ ps) is none some = refl
    go false [] is none some = refl
    go false (p ∷ ps) is none some = let both = is ∙ none refl in absurd cc

-- the last path is there if a path is
last_filled : (paths : List (List ℕ)) (o : Option (List ℕ)) → o ≡ last_of paths → is_some o ≡ is_filled paths
last_filled [] o e = ap is_some e
last_filled (p ∷ ps) o e = ap is_some e ∙ go p ps
  where
    go : (p : List ℕ) (ps : List (List ℕ)) → is_some (last_of (p ∷ ps)) ≡ true
    go p [] = refl
    go p (q ∷ ps) = go q ps

copied_some : (o : Option (Bor (List ℕ))) → is_some o ≡ is_some (option_copied o)
copied_some None = refl
copied_some (Some path) = refl

-- what a request for the last path finds
pub last_request : {E : Type 0} (paths : List (List ℕ)) (request : Request) (path : Option (Bor (List ℕ))) (r : Result Bool E) → request ≡ Last →
    option_copied path ≡ last_of paths → IfOk r (λ found. found ≡ is_some path) → IfOk r (λ found. found ≡ finds paths request)
last_request paths request path (Err e) is same h = tt
last_request paths request path (Ok found) is same h =
    h ∙ copied_some path ∙ last_filled paths (option_copied path) same ∙ ap (finds paths) (sym is)

-- ---- requests with the same line find the same

abbrev at : ℕ → List ℕ → ℕ
at n line = get_or line n 0

finds_same : (paths : List (List ℕ)) (a b : Request) → IsRequest a → IsRequest b → line_of a ≡ line_of b → finds paths a ≡ finds paths b
finds_same paths (Under p) (Under q) h k e = ap (λ t. is_filled (below t paths)) (ap (drop 6) e)
finds_same paths (At p) (At q) h k e = ap (λ t. is_stored t paths) (ap (drop 3) e)
finds_same paths (Count p) (Count q) h k e = ap (λ t. is_filled (below t paths)) (ap (drop 6) e)
finds_same paths First First h k e = refl
finds_same paths Last Last h k e = refl
finds_same paths (Between from to) (Between start end) h k e =
    let both = same_words from.now to.now start.now end.now h.0 k.0 (ap (drop 8) e) in
    ap (λ t. is_filled (between t to.now paths)) both.0 ∙ ap (λ t. is_filled (between start.now t paths)) both.1
finds_same paths a b h k e = absurd (omega (arith, ap (at 0) e))

-- a line whose request finds nothing
pub finds_none : (paths : List (List ℕ)) (line : List ℕ) (request : Request) → IsRequest request → line ≡ line_of request →
    finds paths request ≡ false → ¬ FindsPath paths line
finds_none paths line request is e none (other, other_is, same, some) =
    false≢true (sym none ∙ finds_same paths request other is other_is (sym e ∙ same) ∙ some)
