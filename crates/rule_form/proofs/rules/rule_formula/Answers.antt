use Rattle.goal_form.proofs.Meant.{five_meant}
use Rattle.rule_form.proofs.rules.rule_formula.Goals as goal

pub returns-clause-meant : goal.returns-clause-meant
returns-clause-meant c =
    let headers = rw c.as_slice.ensures at c.in_ok-add_headers.ensures.added in
    let queries = rw c.as_slice-2.ensures at c.in_ok-add_queries.ensures.added in
    five_meant c.path_formula.new.atoms c.add_headers.new.atoms c.add_queries.new.atoms c.add_grpc.new.atoms c.add_fraction.new.atoms
    c.new-members.result c.push.new.self c.add_headers.new.list c.add_queries.new.list c.add_grpc.new.list c.add_fraction.new.list
    c.in_ok-path_formula.field-0 _ _ _ _ _ c.new-members.ensures c.in_ok-path_formula.ensures.meant c.in_ok-push.ensures.ok
    c.add_headers.ensures.kept headers c.add_queries.ensures.kept queries
    c.add_grpc.ensures.kept c.in_ok-add_grpc.ensures.added c.add_fraction.ensures.kept c.in_ok-add_fraction.ensures.added
