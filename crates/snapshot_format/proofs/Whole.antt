-- A snapshot as a whole.
use Rattle.std.proofs.Common.{◌≡◌, ◌≢◌, ℕ, ◌<◌, ◌^◌, List, [], ◌∷◌, ◌++◌, length, length-append, Option, Some, None, IfSome, Result, Ok, Err, MatchResult, IfErr, refl, ap, sym, ◌∙◌, subst, append_assoc, append-nil, arith}
use Rattle.std.proofs.lemmas.List.{append_cancel_left, nil_from_length}
use Rattle.std.specs.List.{AllByRecursion as Each}
use Rattle.std.specs.Io.KnownBytes.{Consumes}
use Rattle.sha2.specs.Hashers.{Holds256}
use Rattle.sha2.specs.Sha256.{sha256}
use Rattle.snapshot_format.specs.Numbers.{number_bytes}
use Rattle.snapshot_format.specs.Snapshots.{Entry, IsStorable, body_of, entries_bytes, head_bytes, last_key, magic, snapshot_of}
use Rattle.snapshot_format.specs.declared.error.ReadError.{ReadError}
use Rattle.snapshot_format.specs.declared.error.ReadError.TheVariants as errors
use Rattle.snapshot_format.specs.declared.source.Source.{Source}
use Rattle.snapshot_format.specs.Reading.{IfFault, IsOutside, Reads}
use Rattle.snapshot_format.proofs.Known.{left_of, reads_more}
use Rattle.snapshot_format.proofs.Numbers.{one_form}
use Rattle.snapshot_format.proofs.RestsOfBytes.{entries_split}

-- an error that can't be about the bytes is about something else
pub outside : {P : Type 0} (error : ReadError) → IfFault error P → (P → ⊥) → IsOutside error
outside (errors.Malformed malformed) fault none = none fault
outside errors.Memory fault none = tt
outside (errors.Reader error) fault none = tt

pub matches : {X P A : Type 0} (result : Result X ReadError) → A → IfErr result (λ error. IfFault error P) → (P → ⊥) → MatchResult result (λ x. A) IsOutside
matches (Ok x) a fault none = a
matches (Err error) a fault none = outside error fault none

-- no start of a snapshot starts another one
head_split : (m n : ℕ) (x y : List ℕ) → head_bytes m ++ x ≡ head_bytes n ++ y → (m ≡ n) × (x ≡ y)
unfolding head_bytes
head_split m n x y e = one_form 9 m n x y (append_cancel_left (magic ++ 1 ∷ []) (number_bytes m ++ x) (number_bytes n ++ y) e)

snapshot_then : (entries : List Entry) → snapshot_of entries ≡ head_bytes (length entries) ++ (entries_bytes [] entries ++ sha256 (body_of entries))
unfolding snapshot_of body_of
snapshot_then entries = append_assoc (head_bytes (length entries)) (entries_bytes [] entries) (sha256 (head_bytes (length entries) ++ entries_bytes [] entries))

pub body_then : (entries : List Entry) (count : ℕ) → length entries ≡ count → head_bytes count ++ entries_bytes [] entries ≡ body_of entries
unfolding body_of
body_then entries count e = ap (λ n. head_bytes n ++ entries_bytes [] entries) (sym e)

joined : (a b : Option (List ℕ)) (xs ys all : List ℕ) → all ≡ xs ++ ys → Consumes a b xs → IfSome b (λ left. left ≡ ys) → IfSome a (λ bytes. bytes ≡ all)
joined None b xs ys all is read left = tt
joined (Some p) None xs ys all is read left = absurd read
joined (Some p) (Some q) xs ys all is read left = read ∙ ap (λ bs. xs ++ bs) left ∙ sym is

same_length : (taken more entries : List Entry) → entries ≡ taken ++ more → length taken ≡ length entries → (taken ≡ entries) × (more ≡ [])
same_length taken more entries is len =
    let l : length entries ≡ length (taken ++ more) = ap length is in
    let none : more ≡ [] = nil_from_length more (omega (arith, length-append {A = Entry} taken more)) in
    (sym (is ∙ ap (λ zs. taken ++ zs) none ∙ append-nil taken), none)

module _ {R : Type 0} (left : R → Option (List ℕ)) where
  -- the checksum is of all that was read
  pub body_held : (a b c : Source R) (taken : List Entry) (count : ℕ) → Reads left a b (head_bytes count) → Reads left b c (entries_bytes [] taken) → length taken ≡ count →
      Holds256 a.digest [] → Holds256 c.digest (body_of taken)
  body_held a b c taken count head entries len none =
      subst (Holds256 c.digest) (body_then taken count len) ((reads_more left a b c (head_bytes count) (entries_bytes [] taken) head entries).held [] none)

  pub all_read : (a b c : Source R) (taken : List Entry) (count : ℕ) → Reads left a b (head_bytes count) → Reads left b c (entries_bytes [] taken) → length taken ≡ count →
      IfSome (left c.input) (λ bytes. bytes ≡ sha256 (body_of taken)) → IfSome (left a.input) (λ bytes. bytes ≡ snapshot_of taken)
  unfolding snapshot_of
  all_read a b c taken count head entries len tail =
      let read = reads_more left a b c (head_bytes count) (entries_bytes [] taken) head entries in
      joined (left a.input) (left c.input) (body_of taken) (sha256 (body_of taken)) (body_of taken ++ sha256 (body_of taken)) refl
      (subst (Consumes (left a.input) (left c.input)) (body_then taken count len) read.taken) tail

  -- what is left of a snapshot after its start
  left_entries : (a b : Source R) (count : ℕ) (entries : List Entry) → Reads left a b (head_bytes count) → left a.input ≡ Some (snapshot_of entries) →
      (length entries ≡ count) × (left b.input ≡ Some (entries_bytes [] entries ++ sha256 (body_of entries)))
  left_entries a b count entries head e =
      let l = left_of (left a.input) (left b.input) (head_bytes count) (snapshot_of entries) head.taken e in
      let s = head_split (length entries) count (entries_bytes [] entries ++ sha256 (body_of entries)) l.0 (sym (snapshot_then entries) ∙ l.2) in
      (s.0, l.1 ∙ ap (λ bs. Some bs) (sym s.1))

  -- and after its entries
  pub left_tail : (a b c : Source R) (taken entries : List Entry) (count : ℕ) → Reads left a b (head_bytes count) → Reads left b c (entries_bytes [] taken) → length taken ≡ count →
      left a.input ≡ Some (snapshot_of entries) → (taken ≡ entries) × (left c.input ≡ Some (sha256 (body_of entries)))
  unfolding entries_bytes
  left_tail a b c taken entries count head read len e =
      let s = left_entries a b count entries head e in
      let n = s.0 in
      let l = left_of (left b.input) (left c.input) (entries_bytes [] taken) (entries_bytes [] entries ++ sha256 (body_of entries)) read.taken s.1 in
      let r = entries_split [] taken entries l.0 (sha256 (body_of entries)) (omega arith) (sym l.2) in
      let z = same_length taken r.0 entries r.1 (omega arith) in
      let t : l.0 ≡ sha256 (body_of entries) = r.2 ∙ ap (λ more. entries_bytes (last_key [] taken) more ++ sha256 (body_of entries)) z.1 in
      (z.0, l.1 ∙ ap (λ bs. Some bs) t)

  -- ---- what no fault is found in

  pub head_is : (a : Source R) (entries : List Entry) → ((count : ℕ) (rest : List ℕ) → count < 2 ^ 64 → left a.input ≢ Some (head_bytes count ++ rest)) → IsStorable entries →
      left a.input ≢ Some (snapshot_of entries)
  head_is a entries none stored e = none (length entries) (entries_bytes [] entries ++ sha256 (body_of entries)) stored.count (e ∙ ap (λ bs. Some bs) (snapshot_then entries))

  pub entries_are : (takes : Entry → Type 0) (a b : Source R) (count : ℕ) (entries : List Entry) → Reads left a b (head_bytes count) →
      ((entries : List Entry) (rest : List ℕ) → length entries ≡ count → IsStorable entries → Each takes entries → left b.input ≢ Some (entries_bytes [] entries ++ rest)) →
      IsStorable entries → Each takes entries → left a.input ≢ Some (snapshot_of entries)
  entries_are takes a b count entries head none stored each e =
      let s = left_entries a b count entries head e in
      none entries (sha256 (body_of entries)) s.0 stored each s.1

  pub tail_is : (a b c : Source R) (taken entries : List Entry) (count : ℕ) → Reads left a b (head_bytes count) → Reads left b c (entries_bytes [] taken) → length taken ≡ count →
      Holds256 a.digest [] → ((body : List ℕ) → Holds256 c.digest body → left c.input ≢ Some (sha256 body)) → left a.input ≢ Some (snapshot_of entries)
  tail_is a b c taken entries count head read len empty none e =
      let t = left_tail a b c taken entries count head read len e in
      none (body_of taken) (body_held a b c taken count head read len empty) (t.1 ∙ ap (λ zs. Some (sha256 (body_of zs))) (sym t.0))
