-- Lines as places in a text.
use Rattle.std.proofs.Common.{◌≡◌, ℕ, suc, ◌+◌, ◌-◌, ◌^◌, ◌<◌, ◌≤◌, List, [], ◌∷◌, ◌++◌, length, map, take, drop, refl, ap, ap₂, sym, ◌∙◌, subst, arith, append-nil, slice_index_or}
use Rattle.std.specs.List.{All, AllPairs, zip}
use Rattle.std.specs.List.Sorted.{IsPermutation}
use Rattle.std.proofs.lemmas.Grind.{flat_map-append}
use Rattle.std.proofs.lemmas.List.{drop-append-le, get_or-map, get_or-take, length-append, length-drop, length-map, length-take-le, map-append, take-append-drop, take-append-le, take_all}
use Rattle.std.proofs.lemmas.List.Elements.{All-append, All-cons, All-head, All-map, All-nil, All-tail}
use Rattle.std.proofs.lemmas.List.Sorted.{All-permutation, IsPermutation-map}
use Rattle.std.proofs.Math.Seq.{drop-append_seam, drop-cons}
use Rattle.prefix_table.specs.declared.network.Network.{Network}
use Rattle.prefix_table.specs.Networks.{IsNetwork, Precedes}
use Rattle.ip_routes.specs.declared.lines.Place.{Place}
use Rattle.ip_routes.specs.declared.lines.Source.{Source}
use Rattle.prefix_table.specs.declared.table.BuildFault.{BuildFault}
use Rattle.prefix_table.specs.declared.table.BuildFault.TheVariants as Built
use Rattle.prefix_table.specs.Entries.{IsBuildFault, IsRepeat, at_place}
use Rattle.ip_routes.specs.Faults.{Adds, IsRefusal, IsRepeated}
use Rattle.ip_routes.specs.Routes.{AreAnswersOf, Route, answer_of, text_of}
use Rattle.ip_routes.specs.Written.{IsWritten}
use Rattle.ip_routes.specs.Sources.{AreSources, ArePlaced, HasRoom, IsPlace, answers_of, entry_of, line_at, network_of, no_source, number_at, place_of, refusal_of, route_of, routes_of}

-- networks and places are those of the sources
pub zip_sources : (sources : List Source) → zip (map network_of sources) (map place_of sources) ≡ map entry_of sources
zip_sources [] = refl
zip_sources (s ∷ ss) = ap (λ es. entry_of s ∷ es) (zip_sources ss)

-- ---- a text with one more line

module _ (text line : List ℕ) where
  place_stays : (place : Place) → IsPlace text place → IsPlace (text ++ line) place
  place_stays place is = record { in_order = is.in_order; within = simp length-append (let w = is.within in omega arith) }

  line_stays : (place : Place) → IsPlace text place → line_at (text ++ line) place ≡ line_at text place
  line_stays place is =
      let from : place.from ≤ length text = (let o = is.in_order in let w = is.within in omega arith) in
      let rest : place.to - place.from ≤ length (drop place.from text) = (let w = is.within in omega (arith, length-drop place.from text)) in
      ap (take (place.to - place.from)) (drop-append-le place.from text line from) ∙ take-append-le (place.to - place.from) (drop place.from text) line rest

  routes_stay : (sources : List Source) → All (λ source. IsPlace text source.place) sources → routes_of (text ++ line) sources ≡ routes_of text sources
  routes_stay [] h = refl
  routes_stay (s ∷ ss) h =
      ap₂ (λ l rs. record { network = s.network; line = l; number = s.number } ∷ rs)
      (line_stays s.place (All-head (λ source. IsPlace text source.place) s ss h))
      (routes_stay ss (All-tail (λ source. IsPlace text source.place) s ss h))

  -- the place of the line that is added
  abbrev new_place : Place
  new_place = record { from = length text; to = length text + length line }

  new_place_is : IsPlace (text ++ line) new_place
  new_place_is = record { in_order = omega arith; within = simp length-append (omega arith) }

  new_line : line_at (text ++ line) new_place ≡ line
  new_line =
      ap (take (length text + length line - length text)) (drop-append_seam text line)
      ∙ take_all (length text + length line - length text) line (omega arith)

  module _ (sources : List Source) (source : Source) (place_is : source.place ≡ new_place) (are : AreSources text sources) where
    abbrev new_route : Route
    new_route = record { network = source.network; line = line; number = source.number }

    pub routes_more : routes_of (text ++ line) (sources ++ source ∷ []) ≡ routes_of text sources ++ new_route ∷ []
    routes_more =
        map-append (route_of (text ++ line)) sources (source ∷ [])
        ∙ ap₂ (λ rs l. rs ++ record { network = source.network; line = l; number = source.number } ∷ [])
        (routes_stay sources are.places) (ap (line_at (text ++ line)) place_is ∙ new_line)

    pub are_more : IsNetwork source.network → length text + length line < 2 ^ 32 → length sources + 1 < 2 ^ 32 →
        AreSources (text ++ line) (sources ++ source ∷ [])
    are_more network bytes lines = record {
      networks =
          All-append (λ s. IsNetwork s.network) sources (source ∷ []) are.networks
          (All-cons (λ s. IsNetwork s.network) source [] network (All-nil (λ s. IsNetwork s.network)));
      places =
          All-append (λ s. IsPlace (text ++ line) s.place) sources (source ∷ [])
          (λ k d h. place_stays (slice_index_or sources k d).place (are.places k d h))
          (All-cons (λ s. IsPlace (text ++ line) s.place) source [] (subst (IsPlace (text ++ line)) (sym place_is) new_place_is)
          (All-nil (λ s. IsPlace (text ++ line) s.place)));
      text_is =
          ap text_of routes_more ∙ flat_map-append (λ route. route.line) (routes_of text sources) (new_route ∷ [])
          ∙ ap₂ (λ a b. a ++ b) are.text_is (append-nil line);
      short = simp length-append (omega arith);
      few = simp length-append (omega arith);
    }

module _ (text line : List ℕ) (sources : List Source) (are : AreSources text sources) (network : Network) (number from to : ℕ)
    (from_is : from ≡ length text) (to_is : to ≡ length text + length line) where
  -- the source of the line that is added
  abbrev new_source : Source
  new_source = record { network = network; number = number; place = record { from = from; to = to } }

  placed : new_source.place ≡ new_place text line
  placed = ap₂ (λ a b. record { from = a; to = b }) from_is to_is

  pub adds_line : IsWritten line network → IsNetwork network →
      Adds line number (routes_of text sources) (routes_of (text ++ line) (sources ++ new_source ∷ []))
  adds_line written is =
      record { network = network; written = written; network_is = is; added = routes_more text line sources new_source placed are }

  pub sources_more : IsNetwork network → HasRoom text sources line → AreSources (text ++ line) (sources ++ new_source ∷ [])
  sources_more is room = are_more text line sources new_source placed are is room.bytes room.lines

-- ---- the table of all sources

module _ (text : List ℕ) (sources : List Source) where
  -- a network with its line
  abbrev shown_at : Network × Place → Network × List ℕ
  shown_at entry = (entry.0, line_at text entry.1)

  answers_are : (ss : List Source) → map shown_at (map entry_of ss) ≡ map answer_of (routes_of text ss)
  answers_are [] = refl
  answers_are (s ∷ ss) = ap (λ es. (s.network, line_at text s.place) ∷ es) (answers_are ss)

  module _ (entries : List (Network × Place)) (same : IsPermutation (map entry_of sources) entries) where
    pub are_placed : All (λ source. IsPlace text source.place) sources → ArePlaced text entries
    are_placed places =
        All-permutation (λ entry. IsPlace text entry.1) (map entry_of sources) entries same
        (All-map (λ entry. IsPlace text entry.1) entry_of sources places)

    not_itself : (n : Network) → ¬ Precedes n n
    not_itself n h = let l = h.length refl refl in omega arith

    pub are_answers : AllPairs (λ a b. Precedes a.0 b.0) entries → AreAnswersOf (routes_of text sources) (answers_of text entries)
    are_answers order = record {
      same = subst (λ xs. IsPermutation xs (map shown_at entries)) (answers_are sources) (IsPermutation-map shown_at (map entry_of sources) entries same);
      distinct = λ i j d below fits equal.
          let none : Network × Place = (d.0, record { from = 0; to = 0 }) in
          let many = length-map entries shown_at in
          let within : j < length entries = omega arith in
          let at_i : (slice_index_or (map shown_at entries) i d).0 ≡ (slice_index_or entries i none).0 =
          ap (λ e. e.0) (get_or-map shown_at entries i none d (omega arith)) in
          let at_j : (slice_index_or (map shown_at entries) j d).0 ≡ (slice_index_or entries j none).0 =
          ap (λ e. e.0) (get_or-map shown_at entries j none d within) in
          not_itself (slice_index_or entries j none).0
          (subst (λ n. Precedes n (slice_index_or entries j none).0) (sym at_i ∙ equal ∙ at_j) (order i j none below within));
    }

  -- ---- a network that occurs twice

  abbrev source_at : ℕ → Source
  source_at k = slice_index_or sources k no_source

  abbrev routes : List Route
  routes = routes_of text sources

  abbrev at_route : ℕ → Route
  at_route k = route_of text (source_at k)

  route_at : (k : ℕ) (d : Route) → k < length sources → slice_index_or routes k d ≡ at_route k
  route_at k d h = get_or-map (route_of text) sources k no_source d h

  network_at : (k : ℕ) → k < length sources → at_place (map network_of sources) k ≡ (source_at k).network
  network_at k h = get_or-map network_of sources k no_source (record { number = 0; version = 0; length = 0 }) h

  pub repeated : (first second : ℕ) → IsRepeat (map network_of sources) first second → IsRepeated routes (number_at sources second) (number_at sources first)
  repeated first second is =
      let many = length-map sources network_of in
      let many_routes = length-map sources (route_of text) in
      let fits : second < length sources = (let f = is.fits in omega arith) in
      let below = is.in_order in
      let short = length-take-le second routes (omega arith) in
      record {
        before = take second routes;
        route = at_route second;
        after = drop (suc second) routes;
        routes_are =
            sym (take-append-drop second routes)
            ∙ ap (λ rs. take second routes ++ rs) (drop-cons routes second (at_route second) (omega arith))
            ∙ ap (λ r. take second routes ++ r ∷ drop (suc second) routes) (route_at second (at_route second) fits);
        number_is = refl;
        same = record {
          route = at_route first;
          there = (
            first,
            omega arith,
            get_or-take second routes first (at_route first) below ∙ route_at first (at_route first) (omega arith),
          );
          network_is = sym (network_at first (omega arith)) ∙ is.same ∙ network_at second fits;
          number_is = refl;
        };
        first = λ i j d order late equal.
            let late' : j < second = omega arith in
            let at_i = get_or-take second routes i d (omega arith) ∙ route_at i d (omega arith) in
            let at_j = get_or-take second routes j d late' ∙ route_at j d (omega arith) in
            is.none_before i j order late'
            (network_at i (omega arith) ∙ ap (λ (r : Route). r.network) (sym at_i) ∙ equal ∙ ap (λ (r : Route). r.network) at_j
            ∙ sym (network_at j (omega arith)));
      }

  pub refused : (fault : BuildFault) → IsBuildFault (map network_of sources) fault →
      IsRefusal routes (refusal_of sources fault).0 (refusal_of sources fault).1
  refused (Built.Twice first second) h = repeated first second h
  refused Built.TooMany h = tt
  refused Built.NoMemory h = tt
