-- where the next key leaves the path of the last one
use Rattle.std.proofs.Common.{◌≡◌, ◌≢◌, ℕ, ◌+◌, ◌<◌, ◌≤◌, List, [], ◌∷◌, ◌++◌, length, get_or, refl, ap, ap₂, sym, ◌∙◌, arith, subst, append_assoc, append-nil, length-append, Bool, false, true, ◌||◌, ◌⊎◌, inl, inr}
use Rattle.std.proofs.lemmas.List.{get_or_at}
use Rattle.std.proofs.lemmas.Bool.{cases_eq, ne_eqb}
use Rattle.art_loading.specs.NextKeys.{IsNextKey, IsReason}
use Rattle.art_loading.specs.declared.append.AppendReason.{AppendReason}
use Rattle.art_loading.specs.declared.append.AppendReason.TheVariants.{Equal, Conflict}
use Rattle.art_model.specs.Prelude.{IsFront, is_front, are_related, Precedes}
use Rattle.art_model.proofs.keys.Fronts.{part_where, front_right, shared_whole}
use Rattle.art_model.proofs.keys.Keys.{front_from, front_related, precedes_at, related_sym}
use Rattle.art_model.proofs.lists.Lists.{common_front-append}
use Rattle.art_reading.specs.Matching.{shared_len}

-- of two lists that begin the same one the shorter one is a prefix of the other
pub split_front : (p front t r : List ℕ) → front ++ t ≡ p ++ r → length p ≤ length front → (mid : List ℕ) × (front ≡ p ++ mid) × (r ≡ mid ++ t)
split_front [] front t r e h = (front, refl, sym e)
split_front (x ∷ p) [] t r e h = absurd (omega arith)
split_front (x ∷ p) (y ∷ front) t r e h =
    let (mid, f, g) = split_front p front t r (rest e) (omega arith) in
    (mid, ap₂ (λ z l. z ∷ l) (first e) f, g)
  where
    first : y ∷ (front ++ t) ≡ x ∷ (p ++ r) → y ≡ x
    first e = cc

    rest : y ∷ (front ++ t) ≡ x ∷ (p ++ r) → front ++ t ≡ p ++ r
    rest e = cc

-- what the code compares
pub next_from : (last key : List ℕ) (shared x y : ℕ) → shared ≡ shared_len key last → shared < length last → shared < length key →
    x ≡ get_or last shared 0 → y ≡ get_or key shared 0 → x < y → IsNextKey last key shared x y
next_from last key shared x y is long within old new less =
    let a = part_where key last (subst (λ n. n < length key) is within) (subst (λ n. n < length last) is long) in
    let count : shared ≡ length a.front = is ∙ ap length (sym a.is_shared) in
    record {
      front = a.front;
      r = a.s;
      s = a.r;
      last_is = a.b_is ∙ ap (λ z. a.front ++ z ∷ a.s) (sym (old ∙ ap (λ l. get_or l shared 0) a.b_is ∙ get_or_at a.front a.y a.s 0 shared (sym count)));
      key_is = a.a_is ∙ ap (λ z. a.front ++ z ∷ a.r) (sym (new ∙ ap (λ l. get_or l shared 0) a.a_is ∙ get_or_at a.front a.x a.r 0 shared (sym count)));
      shared_is = count;
      less = less;
    }

-- ---- why a key can't be appended

-- a key of which all bytes are shared, or all of the last one's, is related to that
related_where : (last key : List ℕ) (shared : ℕ) → shared ≡ shared_len key last → (length last ≤ shared) ⊎ (length key ≤ shared) → are_related last key ≡ true
related_where last key shared is (inl whole) = front_related last key (front_right key last (subst (λ n. length last ≤ n) is whole))
related_where last key shared is (inr whole) = related_sym last key ∙ front_related key last (shared_whole key last (subst (λ n. length key ≤ n) is whole))

-- related keys of one length are equal
related_equal : (last key : List ℕ) → are_related last key ≡ true → length last ≡ length key → key ≡ last
related_equal last key related long = go (is_front last key) (is_front key last) refl refl related
  where
    none : (rest : List ℕ) → length rest ≡ 0 → rest ≡ []
    none [] e = refl
    none (x ∷ rest) e = absurd (omega arith)

    whole : (a b : List ℕ) → IsFront a b → length a ≡ length b → b ≡ a
    whole a b (rest, is) same =
        let l = ap length is in
        let k = length-append a rest in
        is ∙ ap (λ r. a ++ r) (none rest (omega arith)) ∙ append-nil a

    go : (f g : Bool) → is_front last key ≡ f → is_front key last ≡ g → f || g ≡ true → key ≡ last
    go true g front other e = whole last key (front_from last key front) long
    go false true front other e = sym (whole key last (front_from key last other) (sym long))
    go false false front other e = absurd cc

pub why_related : (last key : List ℕ) (shared : ℕ) (reason : AppendReason) → shared ≡ shared_len key last →
    (length last ≤ shared) ⊎ (length key ≤ shared) → (length last ≡ length key → reason ≡ Equal) → (length last ≢ length key → reason ≡ Conflict) →
    IsReason last key reason
why_related last key shared reason is over equal conflict = go (cases_eq (length last) (length key))
  where
    related : are_related last key ≡ true
    related = related_where last key shared is over

    go : (length last ≡ length key) ⊎ (length last ≢ length key) → IsReason last key reason
    go (inl same) = subst (IsReason last key) (sym (equal same)) (related_equal last key related same)
    go (inr other) = subst (IsReason last key) (sym (conflict other)) (related, λ e. other (ap length (sym e)))

pub why_before : (last key : List ℕ) (shared x y : ℕ) → shared ≡ shared_len key last → shared < length last → shared < length key →
    x ≡ get_or last shared 0 → y ≡ get_or key shared 0 → y ≤ x → Precedes key last
why_before last key shared x y is long within old new most =
    let a = part_where key last (subst (λ n. n < length key) is within) (subst (λ n. n < length last) is long) in
    let count : shared ≡ length a.front = is ∙ ap length (sym a.is_shared) in
    let old_is : x ≡ a.y = old ∙ ap (λ l. get_or l shared 0) a.b_is ∙ get_or_at a.front a.y a.s 0 shared (sym count) in
    let new_is : y ≡ a.x = new ∙ ap (λ l. get_or l shared 0) a.a_is ∙ get_or_at a.front a.x a.r 0 shared (sym count) in
    let differ = a.differ in
    precedes_at a.front a.x a.y a.r a.s key last a.a_is a.b_is (omega (arith, differ))

module _ {last key : List ℕ} {shared x y : ℕ} (next : IsNextKey last key shared x y) where
  pub next_precedes : Precedes last key
  next_precedes = precedes_at next.front x y next.r next.s last key next.last_is next.key_is next.less

  pub next_unrelated : are_related key last ≡ false
  next_unrelated = related_sym key last ∙ next_precedes.1

  pub next_shared : shared ≡ shared_len key last
  next_shared =
      let less = next.less in
      next.shared_is ∙ sym (ap₂ shared_len next.key_is next.last_is ∙ ap length (common_front-append next.front (y ∷ next.s) (x ∷ next.r))
      ∙ rw (ne_eqb y x (λ e. omega arith)) (ap length (append-nil next.front)))

  pub next_within : shared < length key
  next_within = let l = ap length next.key_is in let k = next.shared_is in omega (arith, simp length-append at l)

  pub next_byte : get_or key shared 0 ≡ y
  next_byte = ap (λ l. get_or l shared 0) next.key_is ∙ get_or_at next.front y next.s 0 shared (sym next.shared_is)

  -- a place on the path of the last key that is no longer than what is shared
  pub record IsShort (place rest : List ℕ) : Type 0 where
    pub mid : List ℕ
    pub front_is : next.front ≡ place ++ mid
    pub rest_is : rest ≡ mid ++ x ∷ next.r
    pub key_is : key ≡ place ++ (mid ++ y ∷ next.s)
    pub shared_is : shared ≡ length place + length mid

  pub short_place : (place rest : List ℕ) → last ≡ place ++ rest → length place ≤ shared → IsShort place rest
  short_place place rest is short =
      let (mid, front, tail) = split_front place next.front (x ∷ next.r) rest (sym next.last_is ∙ is) (let k = next.shared_is in omega arith) in
      record {
        mid = mid;
        front_is = front;
        rest_is = tail;
        key_is = next.key_is ∙ ap (λ l. l ++ y ∷ next.s) front ∙ append_assoc place mid (y ∷ next.s);
        shared_is = next.shared_is ∙ ap length front ∙ length-append place mid;
      }
