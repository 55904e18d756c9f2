-- What a case that is lent has, and the cases that an iterator has left.
use Rattle.std.specs.Prelude.{List}
use Rattle.cases.specs.Lent.{CaseText, cases_of}
use Rattle.cases.specs.declared.Cases.{Cases}
use Rattle.cases.specs.declared.LentCase.{LentCase}

abbrev pub lent_text : LentCase → CaseText
lent_text case = record { name = case.name.now; text = case.text.now; lines = case.lines.now }

abbrev pub cases_left : Cases → List CaseText
cases_left s = cases_of s.own_lines s.rest.now
