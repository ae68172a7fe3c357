use Rattle.text_programs.proofs.dial_codes.answers.answer_number.Goals as goal

pub returns-in_ok-write_all-in-None-clause-none : goal.returns-in_ok-write_all-in-None-clause-none
returns-in_ok-write_all-in-None-clause-none g c = λ same (entry, there, begins). c.in-None.ensures.longest entry there begins
