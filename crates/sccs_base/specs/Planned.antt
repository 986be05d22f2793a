-- What the streams in memory show: their bytes, their calls so far, and the calls that are to fail.
use Rattle.std.specs.Prelude.{ℕ, List, drop}
use Rattle.sccs_base.specs.declared.memory_streams.MemorySource.{MemorySource}
use Rattle.sccs_base.specs.declared.memory_streams.MemorySink.{MemorySink}
use Rattle.sccs_base.specs.declared.memory_streams.SteadySource.{SteadySource}

abbrev pub steady_left : SteadySource → List ℕ
steady_left s = drop s.at s.bytes.items

abbrev pub source_left : MemorySource → List ℕ
source_left s = steady_left s.source

abbrev pub source_call : MemorySource → ℕ
source_call s = s.calls

abbrev pub source_failing : MemorySource → List ℕ
source_failing s = s.failing.items

abbrev pub sink_given : MemorySink → List ℕ
sink_given s = s.bytes.items

abbrev pub sink_room : MemorySink → ℕ
sink_room s = s.room

abbrev pub sink_call : MemorySink → ℕ
sink_call s = s.calls

abbrev pub sink_failing : MemorySink → List ℕ
sink_failing s = s.failing.items
