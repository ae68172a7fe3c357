use Rattle.snapshot_format.specs.Faults.{NumberFault, WithinFault}
use Rattle.snapshot_format.proofs.Numbers.{fits_within}
use Rattle.snapshot_format.proofs.Faults.{if_err_fault}
use Rattle.snapshot_format.proofs.Causes.{finds_part, if_err_malformed}
use Rattle.snapshot_format.proofs.PartFaults.{within_number}
use Rattle.snapshot_format.proofs.source.Source.number.Goals as goal

pub returns : goal.returns
returns g c = record {
  read = c.number_within.ensures.read;
  fault = if_err_fault c.number_within.result (λ none n rest small. none n rest (fits_within n small) small) c.number_within.ensures.fault;
  why = if_err_malformed c.number_within.result (finds_part g.R.Read.remaining c.args.self.now c.number_within.new.self (WithinFault 9) NumberFault within_number) c.number_within.ensures.why;
}
