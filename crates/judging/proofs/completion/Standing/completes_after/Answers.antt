use Rattle.judging.proofs.Recognition as recognized
use Rattle.judging.proofs.completion.Standing.completes_after.Goals as goal

pub returns-then-told-eq0-clause-completion_rule_within_a_node :
    goal.returns-then-told-eq0-clause-completion_rule_within_a_node
returns-then-told-eq0-clause-completion_rule_within_a_node c = recognized.completion_rule_within

pub returns-else-told-eq0-clause-completion_rule_within_a_node :
    goal.returns-else-told-eq0-clause-completion_rule_within_a_node
returns-else-told-eq0-clause-completion_rule_within_a_node c = recognized.completion_rule_within
