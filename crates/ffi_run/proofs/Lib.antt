mod Travels
