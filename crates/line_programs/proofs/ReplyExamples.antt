-- Entries, messages, outcomes and replies of worked lines, and percentages.
use Rattle.std.proofs.Common.{◌≡◌, [], ◌∷◌, codes, refl}
use Rattle.std.specs.Char.{encode_utf8}
use Rattle.std.specs.Str.{chars, is_utf8}
use Rattle.line_programs.specs.declared.line_tables.Outcome.TheVariants.{Found, NotFound, Invalid}
use Rattle.line_programs.specs.Entries.{entries, trimmed_entry}
use Rattle.line_programs.specs.Json.{json_reply, json_string}
use Rattle.line_programs.specs.Outcomes.{status, worst}
use Rattle.line_programs.specs.Progress.{percentage}

blank_and_comment : entries trimmed_entry 1 (codes " 44  a " ∷ [] ∷ codes "  # b" ∷ codes "1 #c" ∷ codes "  " ∷ [])
    ≡ (1, codes "44  a") ∷ (4, codes "1 #c") ∷ []
blank_and_comment = refl

none_of_three : status (worst (Found ∷ NotFound ∷ Found ∷ [])) ≡ 1
none_of_three = refl

invalid_of_three : status (worst (NotFound ∷ Invalid ∷ Found ∷ [])) ≡ 2
invalid_of_three = refl

no_lines : status (worst []) ≡ 0
no_lines = refl

-- ---- JSON

a_route : json_reply (codes "10.1.2.3") Found (codes "10.1.0.0/16 office\n") ≡ codes "{\"query\":\"10.1.2.3\",\"found\":true,\"lines\":[\"10.1.0.0/16 office\"]}\n"
unfolding is_utf8 chars encode_utf8
a_route = refl

no_paths : json_reply (codes "under b") NotFound [] ≡ codes "{\"query\":\"under b\",\"found\":false,\"lines\":[]}\n"
unfolding is_utf8 chars encode_utf8
no_paths = refl

-- a line feed ends each line, and a carriage return is part of one
empty_path : json_reply (codes "first") Found (10 ∷ 13 ∷ 10 ∷ []) ≡ codes "{\"query\":\"first\",\"found\":true,\"lines\":[\"\",\"\\u000d\"]}\n"
unfolding is_utf8 chars encode_utf8
empty_path = refl

quoted_path : json_string (codes "a\"\\") ≡ codes "\"a\\\"\\\\\""
unfolding is_utf8 chars encode_utf8
quoted_path = refl

control_bytes : json_string (9 ∷ 31 ∷ 32 ∷ 126 ∷ 127 ∷ []) ≡ codes "\"\\u0009\\u001f ~\\u007f\""
unfolding is_utf8 chars encode_utf8
control_bytes = refl

-- é, and a bad byte after it
utf8_path : json_string (195 ∷ 169 ∷ []) ≡ 34 ∷ 195 ∷ 169 ∷ 34 ∷ []
unfolding is_utf8 chars encode_utf8
utf8_path = refl

bad_path : json_string (195 ∷ 169 ∷ 255 ∷ []) ≡ codes "\"\\udcc3\\udca9\\udcff\""
unfolding is_utf8 chars encode_utf8
bad_path = refl

-- ---- progress

a_third : percentage 1 3 ≡ 33
a_third = refl

nothing_so_far : percentage 0 3 ≡ 0
nothing_so_far = refl

a_file_that_grew : percentage 4 3 ≡ 100
a_file_that_grew = refl

an_empty_file : percentage 0 0 ≡ 100
an_empty_file = refl
