use Rattle.rx_auto.proofs.Likeness.{alike_law}
use Rattle.rx_auto.proofs.Numbered.{class_law, below_law, apart_law}
use Rattle.rx_auto.proofs.laws.class_law.Goals as goal

pub returns : goal.returns
returns c = record { alike = alike_law; same = class_law; below = below_law; apart = apart_law }
