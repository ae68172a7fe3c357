use Rattle.std.proofs.Common.{◌≡◌, Bor, Option, Some, None, is_some, refl, ap, ◌∙◌, option_copied}
use Rattle.text_programs.proofs.PathParts.{found_is_stored}
use Rattle.text_programs.proofs.path_indexes.parts.is_stored.Goals as goal

is_some-copied : {A : Type 0} (o : Option (Bor A)) → is_some o ≡ is_some (option_copied o)
is_some-copied None = refl
is_some-copied (Some x) = refl

pub returns : goal.returns
returns c = c.is_some.ensures ∙ is_some-copied c.get_text.result ∙ ap is_some c.get_text.ensures ∙ found_is_stored c.args.path.now c.args.index.now
