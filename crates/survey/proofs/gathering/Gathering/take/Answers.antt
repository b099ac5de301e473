use Rattle.std.proofs.Common.{◌++◌, [], ◌∷◌, sym, ap, ◌∙◌, subst, arith}
use Rattle.survey.proofs.Gatherings.{Facts, quadlets_of, room_for_it, hearable, packet_facts, inverse_facts}
use Rattle.survey.proofs.gathering.Gathering.take.Goals as goal
use Rattle.survey.proofs.gathering.Gathering.take.Goals.{in-Some, in_default}

pub hear-requires : goal.hear-requires
hear-requires c =
    let g = c.args.self.now in
    let known = rw c.in-Some.is at c.requires.it_is_known in
    record { it_can_send_it = hearable g c.args.quadlet c.requires.it_passes c.in-Some.packet known.0 known.1 known.2 }

pub push-requires : goal.push-requires
push-requires c = (omega arith, room_for_it c.args.self.now c.args.quadlet c.requires.it_passes)

pub invariant_of-self : goal.invariant_of-self
invariant_of-self c =
    let g = c.args.self.now in
    let passes = c.requires.it_passes in
    let qs = quadlets_of g ++ (c.args.quadlet ∷ []) in
    subst (λ l. Facts l c.match-packet.self.1.1.0) (sym c.push.ensures.items)
    (elim c.match-packet.branch [
      | in-Some w ↦
          let known = rw w.in-Some.is at c.requires.it_is_known in
          subst (Facts qs) (sym (ap (λ s. s.1.1.0) w.self-is ∙ w.hear.ensures.the_packet_is_heard)) (packet_facts g c.args.quadlet passes w.in-Some.packet known.0 known.1 known.2)
      | in_default w ↦ subst (Facts qs) (sym (ap (λ s. s.1.1.0) w.self-is)) (inverse_facts g c.args.quadlet passes (rw w.in_default.is at c.requires.it_is_known))
    ])
