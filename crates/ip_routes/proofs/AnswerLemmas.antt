-- What networks with places answer, and what their lines do.
use Rattle.std.proofs.Common.{◌≡◌, ◌≤◌, Option, Some, None, Bor, Bool, true, false, ℕ, zero, suc, ◌<◌, List, [], ◌∷◌, ◌++◌, codes, Result, Ok, Err, refl, ap, sym, ◌∙◌, subst, arith}
use Rattle.std.specs.Prelude.{◌↔◌, IfOk, OnOk}
use Rattle.std.specs.Io.KnownBytes.{Appends}
use Rattle.std.specs.List.{All, AllZip}
use Rattle.std.specs.declared.net.ip_addr.IpAddr.{IpAddr}
use Rattle.std.proofs.lemmas.List.{get_or-map, length-map}
use Rattle.std.proofs.NetLemmas.Theorems.{IsIpText_unique}
use Rattle.std.specs.Net.Grammar.{IsIpText}
use Rattle.std.proofs.lemmas.Bool.{false≢true}
use Rattle.std.proofs.lemmas.List.Elements.{All-contains, All-map}
use Rattle.line_programs.specs.declared.line_tables.Outcome.{Outcome}
use Rattle.line_programs.specs.declared.line_tables.Reply.{Reply}
use Rattle.line_programs.specs.LineTables.{AreLookedUp, AreOf, IsLookedUp, IsTried}
use Rattle.line_programs.specs.Outcomes.{outcome_of}
use Rattle.prefix_table.specs.declared.network.Network.{Network}
use Rattle.prefix_table.specs.Networks.{covers}
use Rattle.prefix_table.specs.Entries.{IsLongest, IsLongestValue}
use Rattle.ip_routes.specs.declared.lines.Place.{Place}
use Rattle.ip_routes.specs.Replies.{HasAnswer, IsRouteReply}
use Rattle.ip_routes.specs.Routes.{IsAnswer}
use Rattle.ip_routes.specs.Sources.{ArePlaced, IsPlace, answers_of, line_at}
use Rattle.ip_routes.specs.LookUps.{HasLineAt, IsPlaceIn}
use Rattle.ip_routes.proofs.LookUpLemmas.{items_of_all, items_of_items}

module _ (text : List ℕ) (entries : List (Network × Place)) (address : IpAddr) where
  -- a network with its line
  abbrev shown : Network × Place → Network × List ℕ
  shown entry = (entry.0, line_at text entry.1)

  pub line_is_longest : (network : Network) (place : Place) (line : List ℕ) → line ≡ line_at text place →
      IsLongest entries address (network, place) → IsLongest (answers_of text entries) address (network, line)
  line_is_longest network place line is h =
      let (k, below, at) = h.there in
      record {
        there = (
          k,
          subst (λ n. k < n) (sym (length-map entries shown)) below,
          get_or-map shown entries k (network, place) (network, line) below ∙ ap shown at ∙ ap (λ l. (network, l)) (sym is),
        );
        it_covers = h.it_covers;
        longest = All-map (λ other. covers other.0 address ≡ true → other.0.length ≤ network.length) shown entries h.longest;
      }

  pub no_line : All (λ entry. covers entry.0 address ≡ false) entries → All (λ entry. covers entry.0 address ≡ false) (answers_of text entries)
  no_line h = All-map (λ entry. covers entry.0 address ≡ false) shown entries h

-- an address that no network covers gets no line, however it is written
pub no_answer : (answers : List (Network × List ℕ)) (line : List ℕ) (address : IpAddr) → IsIpText line address → IsAnswer answers address None →
    ¬ HasAnswer answers line
no_answer answers line address is none (other, found, is', (network, longest)) =
    let same = IsIpText_unique line other address is' is in
    false≢true
    (sym (All-contains (λ answer. covers answer.0 address ≡ false) answers (network, found) none longest.there)
    ∙ ap (covers network) (sym same) ∙ longest.it_covers)

-- a reply that was looked up, once it is written
pub reply_written : {Error : Type 0} (IsReply : List ℕ → List ℕ → Type 0) (Finds AsksForNothing : List ℕ → Type 0) (line : List ℕ) (reply : Reply)
    (result : Result Outcome Error) (old new : Option (List ℕ)) → IsLookedUp IsReply Finds line reply →
    OnOk result (Appends old new (reply.text.now ++ codes "\n")) → IfOk result (λ outcome. outcome ≡ outcome_of reply.is_found) →
    IfOk result (λ outcome. IsTried IsReply Finds AsksForNothing line outcome old new)
reply_written IsReply Finds AsksForNothing line reply (Err error) old new h written is = tt
reply_written IsReply Finds AsksForNothing line reply (Ok outcome) old new h written is =
    subst (λ o. IsTried IsReply Finds AsksForNothing line o old new) (sym is) (go reply.is_found h.1)
  where
    go : (t : Bool) → (t ≡ true) ↔ Finds line → IsTried IsReply Finds AsksForNothing line (outcome_of t) old new
    go true found = (found.0 refl, (reply.text.now ++ codes "\n", h.0, written))
    go false found = ((λ finds. false≢true (found.1 finds)), (reply.text.now ++ codes "\n", h.0, written))

-- ---- replies that are looked up by places

first_or_later : {A : Type 0} (P : A → Type 0) (x : A) (xs : List A) → P x → All P xs → All P (x ∷ xs)
first_or_later P x xs p ps zero d below = p
first_or_later P x xs p ps (suc k) d below = ps k d (omega arith)

-- each place that was found is one of the text
pub place_is_in : (text : List ℕ) (entries : List (Network × Place)) (addresses : List IpAddr) (places : List (Option (Bor Place))) →
    ArePlaced text entries → AllZip (IsLongestValue entries) addresses places → All (IsPlaceIn text) places
place_is_in text entries [] [] placed h = λ k d below. absurd (omega arith)
place_is_in text entries [] (place ∷ places) placed h = absurd h
place_is_in text entries (address ∷ addresses) [] placed h = absurd h
place_is_in text entries (address ∷ addresses) (place ∷ places) placed h =
    first_or_later (IsPlaceIn text) place places (first place h.0) (place_is_in text entries addresses places placed h.1)
  where
    first : (place : Option (Bor Place)) → IsLongestValue entries address place → IsPlaceIn text place
    first None is = tt
    first (Some place) (network, longest) = All-contains (λ entry. IsPlace text entry.1) entries (network, place.now) placed longest.there

module _ (text : List ℕ) (entries : List (Network × Place)) where
  -- the line at the place of an address is the reply to each line that writes it
  reply_of_place : (line : List ℕ) (address : IpAddr) (place : Option (Bor Place)) (reply : Reply) → IsIpText line address →
      IsLongestValue entries address place → HasLineAt text place reply →
      IsLookedUp (IsRouteReply (answers_of text entries)) (HasAnswer (answers_of text entries)) line reply
  reply_of_place line address None reply is none has =
      let no = no_line text entries address none in (
        (address, None, is, no, ap (λ bs. bs ++ codes "\n") has.0),
        ((λ found. absurd (false≢true (sym has.1 ∙ found))), (λ other. absurd (no_answer (answers_of text entries) line address is no other))),
      )
  reply_of_place line address (Some place) reply is (network, longest) has =
      let found = line_is_longest text entries address network place.now reply.text.now has.0 longest in (
        (address, Some reply.text.now, is, (network, found), refl),
        ((λ found'. (address, reply.text.now, is, (network, found))), (λ other. has.1)),
      )

  pub are_replies : (addresses : List IpAddr) (places : List (Option (Bor Place))) (replies : List Reply) →
      AllZip (IsLongestValue entries) addresses places → AreOf (HasLineAt text) replies places →
      (asked : List (List ℕ)) → AreOf IsIpText addresses asked →
      AreLookedUp (IsRouteReply (answers_of text entries)) (HasAnswer (answers_of text entries)) replies asked
  are_replies addresses places replies h k asked is =
      items_of_items (λ line place. (address : IpAddr) × IsIpText line address × IsLongestValue entries address place) (HasLineAt text)
      (IsLookedUp (IsRouteReply (answers_of text entries)) (HasAnswer (answers_of text entries)))
      (λ line place reply it has. reply_of_place line it.0 place reply it.1 it.2 has) replies places asked
      (items_of_items IsIpText (IsLongestValue entries) (λ line place. (address : IpAddr) × IsIpText line address × IsLongestValue entries address place)
      (λ line address place is at. (address, is, at)) places addresses asked is
      (items_of_all (IsLongestValue entries) addresses places h)) k
