use Rattle.head_edit.proofs.additions.add.Goals as goal

pub undoubled_value-requires : goal.undoubled_value-requires
undoubled_value-requires c = rw c.as_bytes-text.ensures c.requires.lawful.value
