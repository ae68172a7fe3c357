-- Lines that write networks, worked out by hand.
use Rattle.std.proofs.Common.{◌≡◌, [], ◌∷◌, Some, None, codes, refl}
use Rattle.prefix_table.specs.declared.network.Network.{Network}
use Rattle.ip_routes.specs.Replies.{reply_with}
use Rattle.ip_routes.specs.Routes.{Route, text_of}
use Rattle.ip_routes.specs.RouteTables.{numbered_line}
use Rattle.ip_routes.specs.Sources.{line_at}

-- 10.0.0.0/8
abbrev campus : Network
campus = record { number = 167772160; version = 4; length = 8 }

abbrev first : Route
first = record { network = campus; line = codes "10.0.0.0/8 campus"; number = 3 }

line_of_route : reply_with (Some first.line) ≡ codes "10.0.0.0/8 campus\n"
line_of_route = refl

no_route : reply_with None ≡ codes "none\n"
no_route = refl

third_line : numbered_line first ≡ (3, codes "10.0.0.0/8 campus")
third_line = refl

second_of_two : line_at (codes "::1 a::2 b") (record { from = 5; to = 10 }) ≡ codes "::2 b"
second_of_two = refl

two_lines : text_of (record { network = campus; line = codes "ab"; number = 1 } ∷ record { network = campus; line = codes "c"; number = 2 } ∷ []) ≡ codes "abc"
two_lines = refl
