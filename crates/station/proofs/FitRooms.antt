-- A station's air and what it says fit.
use Rattle.std.proofs.Common.{ℕ, suc, ◌+◌, ◌*◌, ◌≤◌, Bool, List, [], ◌∷◌, ◌++◌, length, length-append, ◌≡◌, arith}
use Rattle.std.proofs.Math.Nat.{mul-le-mul_right}
use Rattle.serving.specs.Protocols.{Protocol, queued_in}
use Rattle.serving.specs.Served.{airs}
use Rattle.station.specs.AirRoom.{AirsFit, ShelfFits, WireFits, most_air}
use Rattle.station.proofs.AirRooms.{air_few}
use Rattle.station.proofs.ProtocolSessions.{queued_within, spoken_few}

pub airs_fit : AirsFit
airs_fit p settings spare [] = omega arith
airs_fit p settings spare (s ∷ ss) =
    let one = air_few (queued_in p s.ran.session) s.bits spare s.is_air (queued_within p settings spare s.ran.fed s.ran.session s.ran.session_is) in
    let on = airs_fit p settings spare ss in
    let both : length (s.bits ++ airs ss) ≤ 8 * most_air spare + 8 * (length ss * most_air spare) = omega (arith, length-append s.bits (airs ss), one, on) in
    let many : 8 * (suc (length ss) * most_air spare) ≡ 8 * most_air spare + 8 * (length ss * most_air spare) = grind arith in
    omega (arith, both, many)

pub shelf_fits : ShelfFits
shelf_fits p settings spare most wire shelf name t told steady proper room = record {
  tells = told;
  steady = steady;
  proper = proper;
  told = t;
  fits = λ now sessions after few.
      let a = airs_fit p settings spare sessions in
      let b : length sessions * most_air spare ≤ most * most_air spare = mul-le-mul_right (most_air spare) few in
      omega (arith, a, b, room);
}

pub wire_fits : WireFits
wire_fits p settings spare most wire t s room = record {
  tells = t;
  steady = s;
  fits = λ k from lt left session is. let a = spoken_few p settings spare (wire.connection k).rest session is in let b = room k from lt left in omega (arith, a, b);
}
