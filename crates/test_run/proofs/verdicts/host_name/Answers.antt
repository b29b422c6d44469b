use Rattle.cfg_types.proofs.Counts.{few_hosts}
use Rattle.test_run.proofs.verdicts.host_name.Goals as goal

pub host_of-requires-clause-few : goal.host_of-requires-clause-few
host_of-requires-clause-few c = few_hosts c.args.config.now c.requires.lawful
