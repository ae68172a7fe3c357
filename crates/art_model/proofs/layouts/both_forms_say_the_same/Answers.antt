use Rattle.art_model.proofs.stores.StoreLaws.{cases_have_layout, layouts_have_cases}
use Rattle.art_model.proofs.layouts.both_forms_say_the_same.Goals as goal

pub returns : goal.returns
returns g c = record { layouts = cases_have_layout; cases = layouts_have_cases }
