-- Lines as places in a text.
use Rattle.std.specs.Prelude.{◌≡◌, ℕ, ◌+◌, ◌^◌, ◌<◌, ◌≤◌, List, length, map, slice_index_or, slice_range, All}
use Rattle.prefix_table.specs.declared.network.Network.{Network}
use Rattle.prefix_table.specs.Networks.{IsNetwork}
use Rattle.prefix_table.specs.declared.table.BuildFault.{BuildFault}
use Rattle.prefix_table.specs.declared.table.BuildFault.TheVariants as Built
use Rattle.ip_routes.specs.declared.lines.LineError.{LineError}
use Rattle.ip_routes.specs.declared.lines.LineError.TheVariants as Why
use Rattle.ip_routes.specs.declared.lines.Place.{Place}
use Rattle.ip_routes.specs.declared.lines.Source.{Source}
use Rattle.ip_routes.specs.Routes.{Route, text_of}

-- the bytes at a place
abbrev pub line_at : List ℕ → Place → List ℕ
line_at text place = slice_range text place.from place.to

-- The place is one of the text.
pub record IsPlace (text : List ℕ) (place : Place) : Type 0 where
  pub in_order : place.from ≤ place.to
  pub within : place.to ≤ length text

abbrev pub network_of : Source → Network
network_of source = source.network

abbrev pub place_of : Source → Place
place_of source = source.place

-- a network with the place of its line
abbrev pub entry_of : Source → Network × Place
entry_of source = (source.network, source.place)

-- the route of a line
abbrev pub route_of : List ℕ → Source → Route
route_of text source = record { network = source.network; line = line_at text source.place; number = source.number }

abbrev pub routes_of : List ℕ → List Source → List Route
routes_of text sources = map (route_of text) sources

-- Each source has a network and a place, and the lines, one after another, are the text.
pub record AreSources (text : List ℕ) (sources : List Source) : Type 0 where
  pub networks : All (λ source. IsNetwork source.network) sources
  pub places : All (λ source. IsPlace text source.place) sources
  pub text_is : text_of (routes_of text sources) ≡ text
  pub short : length text < 2 ^ 32
  pub few : length sources < 2 ^ 32

-- networks with their lines
abbrev pub answers_of : List ℕ → List (Network × Place) → List (Network × List ℕ)
answers_of text entries = map (λ entry. (entry.0, line_at text entry.1)) entries

-- each place is one of the text
abbrev pub ArePlaced : List ℕ → List (Network × Place) → Type 0
ArePlaced text entries = All (λ entry. IsPlace text entry.1) entries

-- Another line would leave fewer than 2^32 bytes, and fewer lines.
pub record HasRoom (text : List ℕ) (sources : List Source) (line : List ℕ) : Type 0 where
  pub bytes : length text + length line < 2 ^ 32
  pub lines : length sources + 1 < 2 ^ 32

abbrev pub no_source : Source
no_source = record {
  network = record { number = 0; version = 0; length = 0 };
  number = 0;
  place = record { from = 0; to = 0 };
}

-- the number of a source
abbrev pub number_at : List Source → ℕ → ℕ
number_at sources k = (slice_index_or sources k no_source).number

-- which line is at fault, and why, if a table of the sources' networks has this fault
abbrev pub refusal_of : List Source → BuildFault → ℕ × LineError
refusal_of sources (Built.Twice first second) = (number_at sources second, Why.Twice (number_at sources first))
refusal_of sources Built.TooMany = (0, Why.NoMemory)
refusal_of sources Built.NoMemory = (0, Why.NoMemory)
