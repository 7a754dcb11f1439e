-- The rows of both products: for each parameter the unit types that have it, its number, the functions it allows, the set of its values and
-- what they are measured in.
use Rattle.std.specs.Prelude.{ℕ, suc, Bool, cond, ◌&&◌, ◌||◌, List, [], ◌∷◌, eqb, leb, get_or}
use Rattle.octets.specs.Octets.{between}
use Rattle.rows.specs.declared.Quantity.{Quantity}
use Rattle.rows.specs.declared.Quantity.TheVariants.{Plain, Tenths, WholeDegrees}
use Rattle.rows.specs.declared.Range.{Range}

-- the values that a row may hold
--   Switch: 0 or 1, in one byte; a written 2 inverts it
--   Number n r: a number of r in n bytes, low byte first
--   Text n m: n to m characters, each a byte from 20 to 7E
--   Free n: any n bytes
--   Clock: seconds, minutes, hours
--   Calendar: a date, as day, weekday, month and year
--   Time: minutes, hours
pub data Set : Type 0 where
  Switch : Set
  Number : ℕ → Range → Set
  Text : ℕ → ℕ → Set
  Free : ℕ → Set
  Clock : Set
  Calendar : Set
  Time : Set

-- the numbers low, low + step, .. up to high, and `extra`, which is low itself where there is none beside them
abbrev pub numbers : ℕ → ℕ → ℕ → ℕ → Range
numbers extra low high step = record { extra = extra; low = low; high = high; step = step }

-- one byte, low to high
abbrev pub range : ℕ → ℕ → Set
range low high = Number 1 (numbers low low high 1)

-- one byte, `extra` or low to high
abbrev pub range_or : ℕ → ℕ → ℕ → Set
range_or extra low high = Number 1 (numbers extra low high 1)

-- the unit types from `first` to `last` have the row; `functions` is how many it allows: 01 up to it
pub record Row : Type 0 where
  pub first : ℕ
  pub last : ℕ
  pub number : ℕ
  pub functions : ℕ
  pub set : Set
  pub quantity : Quantity

abbrev pub read_only : ℕ
read_only = 1

abbrev pub three : ℕ
three = 3

abbrev pub all_five : ℕ
all_five = 5

abbrev pub row_in : Quantity → ℕ → ℕ → ℕ → ℕ → Set → Row
row_in quantity first last number functions set =
    record { first = first; last = last; number = number; functions = functions; set = set; quantity = quantity }

-- a row that is no temperature
abbrev pub row : ℕ → ℕ → ℕ → ℕ → Set → Row
row = row_in Plain

-- a row of the Micra
abbrev pub micra_in : Quantity → ℕ → ℕ → Set → Row
micra_in quantity = row_in quantity 2 2

abbrev pub micra : ℕ → ℕ → Set → Row
micra = row 2 2

-- a row of every VENTO Expert; one with one star, which the A30 (type 5) lacks; one with two, which the A50 (type 3) alone has
abbrev pub expert : ℕ → ℕ → Set → Row
expert = row 3 5

abbrev pub except_a30 : ℕ → ℕ → Set → Row
except_a30 = row 3 4

abbrev pub only_a50 : ℕ → ℕ → Set → Row
only_a50 = row 3 3

-- the rows of the Micra, then those of the VENTO Expert, numbers ascending in each
unfoldable pub rows : List Row
rows =
    micra 0x0001 three Switch ∷  -- unit on or off
    micra 0x0002 all_five (range 1 5) ∷  -- speed mode
    micra 0x0003 all_five (range_or 3 5 5) ∷  -- maximum speed number
    micra 0x0006 read_only (Free 1) ∷  -- boost mode
    micra 0x0007 three Switch ∷  -- timer on or off
    micra 0x0008 all_five (range 0 5) ∷  -- timer mode
    micra 0x0009 all_five (range 0 59) ∷  -- timer setpoint, minutes
    micra 0x000A all_five (range 0 23) ∷  -- timer setpoint, hours
    micra 0x000B read_only (Free 3) ∷  -- timer countdown
    micra_in WholeDegrees 0x000D all_five (range_or 0 15 30) ∷  -- room temperature setpoint in timer mode
    micra 0x0014 three Switch ∷  -- control with a boost switch
    micra 0x0015 three Switch ∷  -- control by a fire alarm sensor
    micra_in WholeDegrees 0x0018 all_five (range 15 30) ∷  -- room temperature setpoint in normal mode
    micra 0x001D all_five (range 0 2) ∷  -- sensor that controls the room temperature
    micra_in Tenths 0x001E read_only (Free 2) ∷  -- temperature that controls the room temperature
    micra_in Tenths 0x001F read_only (Free 2) ∷  -- intake air temperature
    micra_in Tenths 0x0020 read_only (Free 2) ∷  -- supply air temperature
    micra_in Tenths 0x0021 read_only (Free 2) ∷  -- extract air temperature
    micra_in Tenths 0x0022 read_only (Free 2) ∷  -- exhaust air temperature
    micra 0x0032 read_only (Free 1) ∷  -- boost switch status
    micra 0x0033 read_only (Free 1) ∷  -- fire alarm sensor status
    micra 0x0036 all_five (range 0 100) ∷  -- minimum fan speed
    micra 0x0037 all_five (range 0 100) ∷  -- fan speed limit that the guide calls minimum too
    micra 0x003A all_five (range 0 100) ∷  -- supply fan, speed 1
    micra 0x003B all_five (range 0 100) ∷  -- extract fan, speed 1
    micra 0x003C all_five (range 0 100) ∷  -- supply fan, speed 2
    micra 0x003D all_five (range 0 100) ∷  -- extract fan, speed 2
    micra 0x003E all_five (range 0 100) ∷  -- supply fan, speed 3
    micra 0x003F all_five (range 0 100) ∷  -- extract fan, speed 3
    micra 0x0040 all_five (range 0 100) ∷  -- supply fan, speed 4
    micra 0x0041 all_five (range 0 100) ∷  -- extract fan, speed 4
    micra 0x0042 all_five (range 0 100) ∷  -- supply fan, speed 5
    micra 0x0043 all_five (range 0 100) ∷  -- extract fan, speed 5
    micra 0x0045 all_five (range 0 100) ∷  -- fan speed while blowing electric heaters
    micra 0x0046 all_five (range 0 100) ∷  -- supply fan, boost
    micra 0x0047 all_five (range 0 100) ∷  -- extract fan, boost
    micra 0x0060 all_five (range 0 1) ∷  -- main heater type
    micra 0x0063 all_five (Number 2 (numbers 0 70 365 5)) ∷  -- filter replacement timer, days
    micra 0x0064 read_only (Free 4) ∷  -- countdown to filter replacement
    micra 0x0066 all_five (range 0 60) ∷  -- boost turn-off delay, minutes
    micra 0x0067 all_five (range 0 15) ∷  -- boost turn-on delay, minutes
    micra 0x0068 three Switch ∷  -- temperature control in normal mode
    micra_in Tenths 0x006A read_only (Free 2) ∷  -- TE5 temperature
    micra 0x006F three Clock ∷  -- clock
    micra 0x0070 three Calendar ∷  -- calendar
    micra 0x0072 three Switch ∷  -- weekly schedule mode
    micra 0x0073 read_only (Free 1) ∷  -- weekly schedule speed
    micra_in WholeDegrees 0x0074 read_only (Free 1) ∷  -- weekly schedule temperature
    micra 0x007C read_only (Free 16) ∷  -- ID, reported to a search
    micra 0x0086 read_only (Free 6) ∷  -- firmware version and date
    micra 0x0088 read_only (Free 1) ∷  -- filter condition
    micra 0x0093 read_only (Free 1) ∷  -- presence of the Wi-Fi module
    micra 0x0094 three (range 1 2) ∷  -- Wi-Fi mode
    micra 0x0095 three (Text 1 32) ∷  -- Wi-Fi name in client mode
    micra 0x0096 three (Text 8 64) ∷  -- Wi-Fi password
    micra 0x0099 three (range_or 48 50 52) ∷  -- Wi-Fi encryption
    micra 0x009A three (range 1 13) ∷  -- Wi-Fi channel
    micra 0x009B three Switch ∷  -- Wi-Fi module's DHCP
    micra 0x009C three (Free 4) ∷  -- Wi-Fi module's address
    micra 0x009D three (Free 4) ∷  -- Wi-Fi module's subnet mask
    micra 0x009E three (Free 4) ∷  -- Wi-Fi module's gateway
    micra 0x009F three (Free 4) ∷  -- Wi-Fi module's name server
    micra 0x00A1 read_only (Free 1) ∷  -- connection to the router
    micra 0x00A3 read_only (Free 4) ∷  -- Wi-Fi module's current address
    micra 0x00B6 read_only (Free 1) ∷  -- blowing of the electric heater
    micra 0x00B9 read_only (Free 2) ∷  -- unit type
    micra 0x00F0 all_five (range 0 1) ∷  -- recirculation damper
    micra 0x0111 read_only (Free 2) ∷  -- control device type
    micra 0x0112 read_only (Free 6) ∷  -- control panel's firmware version and date
    micra 0x0400 three (range 0 80) ∷  -- brightness of the buttons
    micra 0x0401 three (range 0 1) ∷  -- sound
    micra 0x0402 three (range 0 1) ∷  -- backlight mode
    expert 0x0001 three Switch ∷  -- unit on or off
    expert 0x0002 all_five (range_or 255 1 3) ∷  -- speed number; 255 is the manual setting
    expert 0x0006 read_only (Free 1) ∷  -- boost mode
    expert 0x0007 all_five (range 0 2) ∷  -- timer: off, night, party
    expert 0x000B read_only (Free 3) ∷  -- timer countdown
    expert 0x000F three Switch ∷  -- humidity sensor on or off
    expert 0x0014 three Switch ∷  -- relay sensor on or off
    except_a30 0x0016 three Switch ∷  -- 0-10 V sensor on or off
    expert 0x0019 all_five (range 40 80) ∷  -- humidity threshold
    expert 0x0024 read_only (Free 2) ∷  -- clock battery, millivolts
    expert 0x0025 read_only (Free 1) ∷  -- humidity
    except_a30 0x002D read_only (Free 1) ∷  -- 0-10 V sensor signal
    expert 0x0032 read_only (Free 1) ∷  -- relay sensor status
    only_a50 0x003A all_five (range 10 255) ∷  -- supply fan, speed 1
    only_a50 0x003B all_five (range 10 255) ∷  -- exhaust fan, speed 1
    only_a50 0x003C all_five (range 10 255) ∷  -- supply fan, speed 2
    only_a50 0x003D all_five (range 10 255) ∷  -- exhaust fan, speed 2
    only_a50 0x003E all_five (range 10 255) ∷  -- supply fan, speed 3
    only_a50 0x003F all_five (range 10 255) ∷  -- exhaust fan, speed 3
    expert 0x0044 all_five (range 0 255) ∷  -- fan speed of the manual setting
    expert 0x004A read_only (Free 2) ∷  -- fan 1, turns a minute
    expert 0x004B read_only (Free 2) ∷  -- fan 2, turns a minute
    only_a50 0x0063 all_five (Number 2 (numbers 70 70 365 1)) ∷  -- filter replacement timer, days
    expert 0x0064 read_only (Free 3) ∷  -- countdown to filter replacement
    expert 0x0066 all_five (range 0 60) ∷  -- boost turn-off delay, minutes
    expert 0x006F three Clock ∷  -- clock
    expert 0x0070 three Calendar ∷  -- calendar
    expert 0x0072 three Switch ∷  -- weekly schedule mode
    expert 0x007C read_only (Free 16) ∷  -- ID, reported to a search
    expert 0x007E read_only (Free 4) ∷  -- machine hours
    expert 0x0083 read_only (Free 1) ∷  -- alarm or warning
    expert 0x0086 read_only (Free 6) ∷  -- firmware version and date
    expert 0x0088 read_only (Free 1) ∷  -- filter replacement indicator
    expert 0x0094 all_five (range 1 2) ∷  -- Wi-Fi mode
    expert 0x0095 three (Text 1 32) ∷  -- Wi-Fi name in client mode
    expert 0x0096 three (Text 8 64) ∷  -- Wi-Fi password
    expert 0x0099 three (range_or 48 50 52) ∷  -- Wi-Fi encryption
    expert 0x009A all_five (range 1 13) ∷  -- Wi-Fi channel
    expert 0x009B three Switch ∷  -- Wi-Fi module's DHCP
    expert 0x009C three (Free 4) ∷  -- Wi-Fi module's address
    expert 0x009D three (Free 4) ∷  -- Wi-Fi module's subnet mask
    expert 0x009E three (Free 4) ∷  -- Wi-Fi module's gateway
    expert 0x00A3 read_only (Free 4) ∷  -- Wi-Fi module's current address
    expert 0x00B7 all_five (range 0 2) ∷  -- ventilation, heat recovery, supply
    except_a30 0x00B8 all_five (range 5 100) ∷  -- 0-10 V sensor threshold
    expert 0x00B9 read_only (Free 2) ∷  -- unit type
    expert 0x0302 three Time ∷  -- night mode timer setpoint
    expert 0x0303 three Time ∷  -- party mode timer setpoint
    expert 0x0304 read_only (Free 1) ∷  -- humidity sensor status
    except_a30 0x0305 read_only (Free 1) ∷  -- 0-10 V sensor status
    []

-- what stands for a number that no row has: no unit type, no function, and no bytes
abbrev pub no_row : Row
no_row = row 1 0 0 0 (Free 0)

-- whether a unit type has a row
abbrev pub has : ℕ → Row → Bool
has unit r = between r.first r.last unit

abbrev pub named : ℕ → ℕ → Row → Bool
named unit n r = eqb r.number n && has unit r

-- the place of a unit type's row with a number, or the list's length where there is none
unfoldable pub index_in : ℕ → ℕ → List Row → ℕ
index_in unit n [] = 0
index_in unit n (r ∷ rs) = cond (named unit n r) 0 (suc (index_in unit n rs))

abbrev pub index_of : ℕ → ℕ → ℕ
index_of unit n = index_in unit n rows

abbrev pub row_at : ℕ → Row
row_at index = get_or rows index no_row

-- a unit type's row with a number
abbrev pub row_of : ℕ → ℕ → Row
row_of unit n = row_at (index_of unit n)

-- whether a unit type's row with a number allows a function; an unknown parameter allows none
abbrev pub allows : ℕ → ℕ → ℕ → Bool
allows unit n function = leb function (row_of unit n).functions

abbrev pub known : ℕ → ℕ → Bool
known unit n = allows unit n 1

-- the two rows that tell who the board is: its ID and its unit type
abbrev pub is_identity : ℕ → Bool
is_identity n = eqb n 0x007C || eqb n 0x00B9
