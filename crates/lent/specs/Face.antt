-- The answers as numbers, for callers outside.
use Rattle.table.specs.Verdicts.{number_of, row_named}
use Rattle.record.specs.declared.Reading.{Reading}
use Rattle.record.specs.declared.Written.{Written}
use Rattle.allowance.specs.declared.Tested.{Tested}
use Rattle.engine.specs.declared.Started.{Started}
use Rattle.engine.specs.declared.Requested.{Requested}
use Rattle.engine.specs.declared.Summed.{Summed}
use Rattle.engine.specs.declared.State.{State}
use Rattle.engine.specs.Calls.{request_of}
use Rattle.lent.specs.declared.Told.{Told}
use Rattle.lent.specs.declared.Ask.{Ask}
use Rattle.lent.specs.declared.Read.{Read}
use Rattle.lent.specs.declared.Wrote.{Wrote}
use Rattle.lent.specs.declared.Tried.{Tried}
use Rattle.lent.specs.declared.Began.{Began}
use Rattle.lent.specs.declared.Sum.{Sum}
use Rattle.lent.specs.declared.RequestTold.{RequestTold}

abbrev pub told_face : Requested → Told
told_face r = record { number = number_of r.verdict; row = 0 }

abbrev pub request_told : State → Ask → RequestTold
request_told s ask = record { state = (request_of s ask.name ask.size).state; answer = told_face (request_of s ask.name ask.size) }

-- A verdict becomes its number and the row that it names

abbrev pub read_face : Reading → Read
read_face r = record { number = number_of r.verdict; row = row_named r.verdict; table = r.table }

abbrev pub wrote_face : Written → Wrote
wrote_face r = record { number = number_of r.verdict; row = row_named r.verdict; length = r.length }

abbrev pub tried_face : Tested → Tried
tried_face r = record { number = number_of r.verdict; k = r.k; row = row_named r.verdict; each = r.each }

abbrev pub began_face : Started → Began
began_face r = record { number = number_of r.verdict; row = row_named r.verdict; state = r.state }

abbrev pub sum_face : Summed → Sum
sum_face r = record { number = number_of r.verdict; total = r.total }
