use Rattle.art_model.proofs.stores.StoreLaws.{others_stay_free, others_were_free}
use Rattle.art_model.proofs.footprints.a_footprint_leaves_no_name_out.Goals as goal

pub returns : goal.returns
returns g c = record { placed = others_stay_free; freed = others_were_free }
