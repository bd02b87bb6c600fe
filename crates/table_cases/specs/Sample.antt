-- The sample's table as the program lends it, and an index beyond it.
use Rattle.std.specs.Prelude.{ℕ, ◌*◌}
use Rattle.table.specs.Table.{entry_stride}

-- the entries, used and unused
abbrev pub sample_entries : ℕ
sample_entries = 45

abbrev pub sample_words : ℕ
sample_words = sample_entries * entry_stride

abbrev pub far_index : ℕ
far_index = 1000
