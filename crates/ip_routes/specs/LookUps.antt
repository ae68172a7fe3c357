-- Where the replies to addresses are found.
use Rattle.std.specs.Prelude.{◌≡◌, ℕ, true, false, List, codes, Option, Some, None, IfSome}
use denote.Ref.{Bor}
use Rattle.line_programs.specs.declared.line_tables.Reply.{Reply}
use Rattle.ip_routes.specs.declared.lines.Place.{Place}
use Rattle.ip_routes.specs.Sources.{IsPlace, line_at}

-- the place, if there is one, is one of the text
abbrev pub IsPlaceIn : List ℕ → Option (Bor Place) → Type 0
IsPlaceIn text place = IfSome place (λ place. IsPlace text place.now)

-- the reply is the line at a place, or none
abbrev pub HasLineAt : List ℕ → Option (Bor Place) → Reply → Type 0
HasLineAt text None reply = (reply.text.now ≡ codes "none") × (reply.is_found ≡ false)
HasLineAt text (Some place) reply = (reply.text.now ≡ line_at text place.now) × (reply.is_found ≡ true)
