-- What the steps of a zone give at a cursor: a sign, a group of two digits, and all behind the sign.
use Rattle.std.specs.Prelude.{Bool, ℕ, ◌+◌, ◌*◌, Result, Ok, Err, Option}
use Rattle.meaning.specs.Numerals.{integer}
use Rattle.meaning.specs.Readers.{Got, got, stopped, Reader, ◌>>=◌, done, take_count, ZoneSign, utc, ahead, behind_utc}
use Rattle.meaning.specs.Reading.{value, zone_group}
use Rattle.meaning.specs.UnitSizes.{seconds_per_hour, seconds_per_minute}
use Rattle.meaning.specs.declared.Carried.{Carried}
use Rattle.meaning.specs.declared.Group.{Group}
use Rattle.meaning.specs.declared.ParseUnit.TheVariants as unit
use Rattle.parse.specs.Steps.{read_at, stopped_at}
use Rattle.parse.specs.declared.cursor.Read.{Read}
use Rattle.parse.specs.declared.cursor.Stop.{Stop}
use Rattle.parse.specs.declared.zones.ZoneSign as sign
use Rattle.parse.specs.declared.zones.ZoneSign.TheVariants as variants

abbrev pub sign_of : ZoneSign → sign.ZoneSign
sign_of utc = variants.Utc
sign_of ahead = variants.Ahead
sign_of behind_utc = variants.BehindUtc

abbrev pub sign_at : ℕ → Got ZoneSign → Result (Read sign.ZoneSign) Stop
sign_at at (got k s) = Ok (record { value = sign_of s; next = record { at = at + k } })
sign_at at (stopped why i) = Err (stopped_at at why i)

abbrev pub counted_at : ℕ → Got ℕ → Result (Read ℕ) Stop
counted_at = read_at

abbrev pub offset : Bool → ℕ → Option Carried
offset negative n = value unit.Offset (integer (record { negative = negative; size = n }))

abbrev pub zone_from : Bool → Bool → Group → Group → Reader (Option Carried)
zone_from negative c minutes seconds = do
  hh ← take_count 2
  mm ← zone_group c minutes
  ss ← zone_group c seconds
  done (offset negative (hh * seconds_per_hour + mm * seconds_per_minute + ss))
