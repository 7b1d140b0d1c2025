use Rattle.std.proofs.Common.{◌<◌, ◌∙◌, length, sym, arith}
use Rattle.blob_entries.proofs.Numbers.{number_within}
use Rattle.blob_registry.proofs.registry.Registry.number_of.Goals as goal

pub overflow_cast-result : goal.overflow_cast-result
overflow_cast-result c =
    let within : c.in_ok-number.number < length c.self.inside.table.names = number_within c.args.name c.self.inside.table.names c.in_ok-number.number
    (sym c.find.ensures ∙ c.in_ok-number.was) in
    omega (arith, within, c.len-count.ensures.value, c.len-count.ensures.most)
