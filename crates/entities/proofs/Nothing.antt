-- What is read without memory.
use Rattle.std.proofs.Common.{Result, Ok, Err}
use Rattle.json_words.specs.ReadsAs.{ReadsAs, AlwaysReadsAs}

-- what takes no memory also reads where memory may be refused
pub always_reads : {X Y F : Type 0} (memory : F) (view : X → Y) (r : Result X F) (read : Result Y F) → AlwaysReadsAs view r read → ReadsAs memory view r read
always_reads memory view (Ok x) read h = h
always_reads memory view (Err e) read h = λ other. h
