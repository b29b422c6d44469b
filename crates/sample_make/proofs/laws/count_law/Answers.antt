use Rattle.std.proofs.lemmas.List.FromFn.{length-map-range_with_len}
use Rattle.sample_make.specs.Samples.{sample_host}
use Rattle.sample_make.proofs.Counts.{count_from, before_from}
use Rattle.sample_make.proofs.laws.count_law.Goals as goal

pub returns-clause-hosts : goal.returns-clause-hosts
returns-clause-hosts c = λ n. length-map-range_with_len sample_host 0 n

pub returns-clause-routes : goal.returns-clause-routes
returns-clause-routes c = λ n. count_from 0 n

pub returns-clause-before : goal.returns-clause-before
returns-clause-before c = λ n h l. before_from 0 n h l
