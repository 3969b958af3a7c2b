-- The proofs of specs/Theorems.antt, in its order.
use Rattle.record.specs.Theorems.{ReadGives, WriteGives, ReadsBack, BufferReadsBack, RestStays, WritesBack, WritesBytes, OneRecord, OneTable}
use Rattle.record.proofs.Refusals as refusals
use Rattle.record.proofs.RoundTrip as trip

pub read_gives : ReadGives
read_gives = refusals.read_gives

pub write_gives : WriteGives
write_gives = refusals.write_gives

pub reads_back : ReadsBack
reads_back = trip.reads_back

pub buffer_reads_back : BufferReadsBack
buffer_reads_back = trip.buffer_reads_back

pub rest_stays : RestStays
rest_stays = trip.rest_stays

pub writes_back : WritesBack
writes_back = trip.writes_back

pub writes_bytes : WritesBytes
writes_bytes = trip.writes_bytes

pub one_record : OneRecord
one_record = trip.one_record

pub one_table : OneTable
one_table = trip.one_table
