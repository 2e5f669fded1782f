-- What a server answers by, as it is handed along.
use Rattle.answer_publisher_keys.specs.Bindings.{ZoneKeys}
use Rattle.answer_publisher.specs.World.{World}
use Rattle.server_answers.specs.Responding.{Serving, serving}
use Rattle.server_answers.specs.declared.server.Server.{Server}

-- with the world and the keys of its publisher
abbrev pub serving_by : World → ZoneKeys → Server → Serving
serving_by w keys s = serving w keys s.table.now s.at s.sizes.limit s.sizes.udp_size s.addresses.now
