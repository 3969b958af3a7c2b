-- What `Table::formed` gives, seen without the fact that comes with it: the table, or the refusal.
use Rattle.std.specs.Prelude.{Result, Ok, Err}
use Rattle.table.specs.declared.Table.{Table}
use Rattle.table.specs.declared.Refusal.{Refusal}
use Rattle.table.specs.declared.formed.Formed.{Formed}

abbrev pub tables_of : Result Formed Refusal → Result Table Refusal
tables_of (Ok x) = Ok x.table
tables_of (Err why) = Err why
