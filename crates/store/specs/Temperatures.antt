-- Temperatures: measured ones are signed tenths of a degree, setpoints whole degrees.
use Rattle.std.specs.Prelude.{ℕ, ◌-◌, Bool, cond, ◌||◌, eqb, ltb, ℤ, pos, negsuc}
use Rattle.store.specs.declared.temperatures.Reading.{Reading}
use Rattle.store.specs.declared.temperatures.Reading.TheVariants.{Temperature, SensorMissing, ShortCircuit}
use Rattle.store.specs.declared.tenths.Tenths.{Tenths}

-- two marks stand among the bits and are no temperatures: -32768 and 32767
abbrev pub sensor_missing : ℕ
sensor_missing = 0x8000

abbrev pub short_circuit : ℕ
short_circuit = 0x7FFF

abbrev pub is_mark : ℕ → Bool
is_mark bits = eqb bits sensor_missing || eqb bits short_circuit

-- sixteen bits as a signed number, those from 8000 on negative, FFFF for -1; and back
abbrev pub tenths_of : ℕ → Tenths
tenths_of bits = record { tenths = cond (ltb bits 0x8000) (pos bits) (negsuc (0xFFFF - bits)) }

abbrev pub bits_of : ℤ → ℕ
bits_of (pos n) = n
bits_of (negsuc n) = 0xFFFF - n

-- what the bits of a measured row say
abbrev pub reading_of : ℕ → Reading
reading_of bits =
    cond (eqb bits sensor_missing) SensorMissing
    (cond (eqb bits short_circuit) ShortCircuit
    (Temperature (tenths_of bits)))
