use Rattle.read_config.proofs.LawfulConfigs.{gives_lawful}
use Rattle.read_config.proofs.read_config.Goals as goal

pub returns-clause-lawful : goal.returns-clause-lawful
returns-clause-lawful c = gives_lawful c.read_bytes.result c.args.bytes.now c.read_bytes.ensures
