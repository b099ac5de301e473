-- The rows of the bench of three, computed from its packets.
use Rattle.std.proofs.Common.{sym, refl, ap, ◌∙◌}
use Rattle.judging.proofs.Rebuilt.{rebuilt}
use Rattle.survey.specs.Waiting.{rows_of}
use Rattle.surveyexamples.specs.Bench.{bench_quadlets, BenchIsShown}

pub bench_is_shown : BenchIsShown
bench_is_shown c a = ap rows_of (sym (rebuilt c bench_quadlets a)) ∙ refl
