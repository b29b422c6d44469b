use Rattle.rule_form.proofs.HeaderLaws.{header_law}
use Rattle.rule_form.proofs.OtherLaws.{query_law, fraction_law, grpc_law, path_law, rule_law}
use Rattle.rule_form.proofs.Names.{rule_names_law}
use Rattle.rule_form.proofs.laws.rule_laws.Goals as goal

pub returns : goal.returns
returns c = record { headers = header_law; queries = query_law; fractions = fraction_law; grpc = grpc_law; paths = path_law; rules = rule_law; names = rule_names_law }
