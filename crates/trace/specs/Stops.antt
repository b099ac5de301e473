-- The number of each stop of a trace, and its place.
use Rattle.std.specs.Prelude.{ℕ}
use Rattle.source.specs.declared.SourceStop.{SourceStop}
use Rattle.trace.specs.declared.token.TraceStop.{TraceStop}
use Rattle.trace.specs.declared.token.TraceStop.TheVariants.{LongLine, Malformed}

-- 20: the line is too long; 21: it is malformed.
abbrev pub trace_stop_number : TraceStop → ℕ
trace_stop_number (LongLine place) = 20
trace_stop_number (Malformed place) = 21

-- The number of the line.
abbrev pub trace_stop_place : TraceStop → ℕ
trace_stop_place (LongLine place) = place
trace_stop_place (Malformed place) = place

-- The same stop as any source tells it, by number and place.
abbrev pub as_source_stop : TraceStop → SourceStop
as_source_stop stop = record { number = trace_stop_number stop; place = trace_stop_place stop }
