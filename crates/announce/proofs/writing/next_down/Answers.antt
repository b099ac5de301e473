use Rattle.std.proofs.Common.{◌≡◌, ◌+◌, ◌≤◌, List, length, get_or, drop, Some, None, position, sym, ap, ◌∙◌, arith}
use Rattle.std.specs.List.{position_or_len}
use Rattle.std.proofs.lemmas.List.{get_or-drop}
use Rattle.std.proofs.lemmas.List.Quantifiers.{position-Some}
use Rattle.std.proofs.lemmas.List.Sums.{fails_before_first}
use Rattle.announce.specs.declared.described.RowPort.{RowPort}
use Rattle.announce.specs.Description.{is_down}
use Rattle.announce.proofs.Opened.{down_none, down_at}
use Rattle.announce.proofs.writing.next_down.Goals as goal

no_place : (ports : List RowPort) → None ≡ position is_down ports → length ports ≤ position_or_len is_down ports
no_place ports e = grind arith

pub returns-in_err-passed : goal.returns-in_err-passed
returns-in_err-passed c =
    let ports = drop c.args.from c.args.ports.now in
    let past = no_place ports c.in_err-passed.ensures.is_its_place in
    record { is_the_first_from_there_on = c.from_residual.ensures ∙ sym (down_none ports c.args.from (λ k d l. fails_before_first is_down ports k d (omega arith))) }

pub returns : goal.returns
returns c =
    let ports = drop c.args.from c.args.ports.now in
    let k = c.in_ok-passed.passed in
    let none : RowPort = record { mark = 0; child = 0 } in
    let (small, first, others) = position-Some is_down ports k none (sym c.in_ok-passed.ensures.is_its_place) in
    let here : get_or c.args.ports.now (c.args.from + k) none ≡ get_or ports k none = sym (get_or-drop c.args.from c.args.ports.now k none) in
    record { is_the_first_from_there_on = ap (λ p. Some (record { child = p.child; next = c.args.from + k + 1 })) here ∙ sym (down_at ports c.args.from k none small first others) }
